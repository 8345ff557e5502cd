-- Tables after lists of commands, followers that keep a table once begun, two followers side by side, and halving.
use Rattle.std.specs.Prelude.{◌≡◌, ℕ, suc, Bool, ◌&&◌, List, [], ◌∷◌, ◌++◌, ◌^◌, ℤ, pos, ◌+ℤ◌, ◌*ℤ◌, Some, refl}
use Rattle.std.proofs.Common.{ap, ◌∙◌, arith}
use Rattle.std.proofs.lemmas.Bool.{and_from}
use Rattle.rule.specs.Rule.{State, command, after, told}
use Rattle.rule.specs.Pairs.{start_of}
use Rattle.rule.specs.Whole.{whole}
use Rattle.rule.specs.declared.command.Command.{Command}
use Rattle.rule.specs.declared.pair.AdmittedPair.{AdmittedPair}
use Rattle.rule.proofs.Ring.{out}
use Rattle.rule.proofs.Fuel.{told_more}
use Rattle.follower.specs.Following.{turned, table_at, Follows, begun_first, begun_accepts, begun_turns, BegunRelated}

pub turned_more : {T : Type 0} (turns : T → Command → T) (t : T) (cs : List Command) (c : Command) → turned turns t (cs ++ c ∷ []) ≡ turns (turned turns t cs) c
unfolding turned
turned_more turns t [] c = refl
turned_more turns t (x ∷ cs) c = turned_more turns (turns t x) cs c

pub table_more : {T : Type 0} (first : AdmittedPair → T) (turns : T → Command → T) (p : AdmittedPair) (k : ℕ) → table_at first turns p (suc k) ≡ turns (table_at first turns p k) (command whole (after whole k (start_of p)))
table_more first turns p k = grind (arith, turned_more, told_more)

-- side by side, each table goes its own way
pub turned_beside : {T U : Type 0} (f : T → Command → T) (g : U → Command → U) (t : T) (u : U) (cs : List Command) → turned {T = T × U} (λ x c. (f x.0 c, g x.1 c)) (t, u) cs ≡ (turned f t cs, turned g u cs)
unfolding turned
turned_beside f g t u [] = refl
turned_beside f g t u (c ∷ cs) = turned_beside f g (f t c) (g u c) cs

pub follows_beside : {T U : Type 0} (first : AdmittedPair → T) (accepts : T → Command → Bool) (turns : T → Command → T) (relation : AdmittedPair → T → State ℤ → Type 0)
    (first' : AdmittedPair → U) (accepts' : U → Command → Bool) (turns' : U → Command → U) (relation' : AdmittedPair → U → State ℤ → Type 0)
    → Follows first accepts turns relation → Follows first' accepts' turns' relation'
    → Follows {T = T × U} (λ p. (first p, first' p)) (λ t c. accepts t.0 c && accepts' t.1 c) (λ t c. (turns t.0 c, turns' t.1 c)) (λ p t s. relation p t.0 s × relation' p t.1 s)
follows_beside first accepts turns relation first' accepts' turns' relation' h k p m r =
    let e = turned_beside turns turns' (first p) (first' p) (told whole m (start_of p)) in
    record {
      related = rw e ((h p m r).related, (k p m r).related);
      takes = λ n. rw e (and_from _ _ ((h p m r).takes n) ((k p m r).takes n));
    }

-- once it is begun, a follower's table goes as the table that it keeps
begun_turned : {T : Type 0} (turns : T → Command → T) (t : T) (cs : List Command) → turned (begun_turns turns) (Some t) cs ≡ Some (turned turns t cs)
unfolding turned
begun_turned turns t [] = refl
begun_turned turns t (c ∷ cs) = begun_turned turns (turns t c) cs

pub begun_table_at : {T : Type 0} (first : AdmittedPair → T) (turns : T → Command → T) (p : AdmittedPair) (k : ℕ) → table_at (begun_first first) (begun_turns turns) p k ≡ Some (table_at first turns p k)
begun_table_at first turns p k = grind (arith, begun_turned)

pub follows_begun : {T : Type 0} (first : AdmittedPair → T) (accepts : T → Command → Bool) (turns : T → Command → T) (relation : AdmittedPair → T → State ℤ → Type 0)
    → Follows first accepts turns relation
    → Follows (begun_first first) (begun_accepts accepts) (begun_turns turns) (BegunRelated relation)
follows_begun first accepts turns relation h p k r =
    let e = begun_table_at first turns p k in
    record { related = rw e (h p k r).related; takes = λ n. rw e ((h p k r).takes n) }

-- half of z, times one two more, is z times its twos
pub half_scaled : (z h : ℤ) (t : ℕ) (w : ℤ) → z ≡ h +ℤ h → z *ℤ pos (2 ^ t) ≡ w → h *ℤ pos (2 ^ suc t) ≡ w
half_scaled z h t w e f = ident (pos (2 ^ t)) (pos (2 ^ suc t)) (ap pos (omega arith)) ∙ f
  where
    ident : (u v : ℤ) → v ≡ u +ℤ u → h *ℤ v ≡ z *ℤ u
    ident u v g = simp (e, g, out)
