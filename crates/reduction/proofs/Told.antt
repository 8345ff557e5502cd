-- The commands of a run, by their places, and a follower that is told them.
use Rattle.std.proofs.Common.{◌≡◌, ℕ, zero, suc, ◌+◌, ◌<◌, ◌≤◌, Bool, true, List, ◌∷◌, length, get_or, take, ℤ, Ok, Result, refl, ap, ◌∙◌, arith}
use Rattle.std.proofs.lemmas.List.{take_more}
use Rattle.std.specs.Result.{IsOk}
use Rattle.rule.specs.Kind.{Kind}
use Rattle.rule.specs.Pairs.{start_of}
use Rattle.rule.specs.Rule.{State, command, next, after, told, Running}
use Rattle.rule.specs.Whole.{whole}
use Rattle.rule.specs.declared.command.Command.{Command}
use Rattle.rule.specs.declared.fault.Fault.{Fault}
use Rattle.rule.specs.declared.pair.AdmittedPair.{AdmittedPair}
use Rattle.follower.specs.Following.{turned, Followed, Follows}
use Rattle.follower.specs.FollowingLemmas.{turned_more}

told-take : {K : Type 0} (k : Kind K) (i m : ℕ) (s : State K) → i ≤ m → take i (told k m s) ≡ told k i s
unfolding told
told-take k zero m s l = refl
told-take k (suc i) zero s l = absurd (omega arith)
told-take k (suc i) (suc m) s l = ap (λ cs. command k s ∷ cs) (told-take k i m (next k s) (omega arith))

told-get : {K : Type 0} (k : Kind K) (i m : ℕ) (s : State K) (d : Command) → i < m → get_or (told k m s) i d ≡ command k (after k i s)
unfolding told after
told-get k i zero s d l = absurd (omega arith)
told-get k zero (suc m) s d l = refl
told-get k (suc i) (suc m) s d l = told-get k i m (next k s) d (omega arith)

pub run_take : (p : AdmittedPair) (cs : List Command) (i : ℕ) → cs ≡ told whole (length cs) (start_of p) → i ≤ length cs → take i cs ≡ told whole i (start_of p)
run_take p cs i e l = ap (take i) e ∙ told-take whole i (length cs) (start_of p) l

pub run-get : (p : AdmittedPair) (cs : List Command) (i : ℕ) (d : Command) → cs ≡ told whole (length cs) (start_of p) → i < length cs → get_or cs i d ≡ command whole (after whole i (start_of p))
run-get p cs i d e l = ap (λ (l : List Command). get_or l i d) e ∙ told-get whole i (length cs) (start_of p) d l

-- a follower that was told the commands before the i-th of the run of its pair takes that one
pub takes_next : {T : Type 0} (first : AdmittedPair → T) (accepts : T → Command → Bool) (turns : T → Command → T) (relation : AdmittedPair → T → State ℤ → Type 0)
    → Follows first accepts turns relation → (p : AdmittedPair) (cs : List Command) (i : ℕ) (d : Command) (t : T)
    → cs ≡ told whole (length cs) (start_of p) → Running whole (start_of p) (length cs) → i < length cs
    → t ≡ turned turns (first p) (take i cs) → accepts t (get_or cs i d) ≡ true
takes_next first accepts turns relation follows p cs i d t run running l e =
    let h = (follows p i (λ j q. running j (omega arith))).takes (running i l) in
    grind (arith, h, run_take p cs i run (omega arith), run-get p cs i d run l)

-- a command that is taken is not refused
pub taken_ok : {T : Type 0} (accepts : T → Command → Bool) (turns : T → Command → T) (t t' : T) (d : Command) (r : Result (Unit {0}) Fault) → Followed accepts turns t d r t' → accepts t d ≡ true → IsOk r
taken_ok accepts turns t t' d r h e = grind arith

-- one that is not refused turns the table
pub taken_turns : {T : Type 0} (accepts : T → Command → Bool) (turns : T → Command → T) (t t' : T) (d : Command) (r : Result (Unit {0}) Fault) (x : Unit {0}) → Followed accepts turns t d r t' → r ≡ Ok x → t' ≡ turns t d
taken_turns accepts turns t t' d r x h e = grind arith

-- one command more
pub turned_next : {T : Type 0} (turns : T → Command → T) (t₀ t t' : T) (cs : List Command) (i : ℕ) (d : Command) → i < length cs → t ≡ turned turns t₀ (take i cs) → t' ≡ turns t (get_or cs i d) → t' ≡ turned turns t₀ (take (i + 1) cs)
turned_next turns t₀ t t' cs i d l e f = grind (arith, turned_more turns t₀ (take i cs) (get_or cs i d), take_more cs i d l)
