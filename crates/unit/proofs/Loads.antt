-- What a unit that takes a pair does.
use Rattle.std.proofs.Common.{◌≡◌, ℕ, ◌≤◌, List, Some, None, Ok, sym, ap, subst, ap₂}
use Rattle.std.proofs.lemmas.Bool.{true≢false}
use Rattle.std.proofs.lemmas.Option.{same_Some}
use Rattle.rule.specs.Pairs.{order_of, start_of}
use Rattle.rule.specs.declared.command.Command.{Command}
use Rattle.rule.specs.declared.pair.AdmittedPair.{AdmittedPair}
use Rattle.frame.specs.Frames.{frame_of}
use Rattle.engine.specs.Meaning.{Meaning, held, count_of}
use Rattle.engine.specs.declared.engine.Engine as Engine
use Rattle.follower.specs.declared.follower.Follower as Follower
use Rattle.reduction.specs.Results.{Along}
use Rattle.unit.specs.Answers.{LoadAnswer}
use Rattle.unit.specs.Calls.{Loads}
use Rattle.unit.specs.Standing.{standing_at, Placed}
use Rattle.unit.specs.declared.unit.Unit.{Unit as AnyUnit}
use Rattle.unit.proofs.Works.{along_start}

pub loads : {E F : Type 0} {e : Engine.Ghosts E} {f : Follower.Ghosts F} (u u' : AnyUnit E F e f) (frame : List ℕ) (p : AdmittedPair) → u.pair ≡ None → u'.pair ≡ Some p → u'.stint ≡ u.stint → frame ≡ frame_of p → order_of p ≤ e.largest → e.meaning u'.engine ≡ held (order_of p) (start_of p) → f.table u'.followers ≡ f.first p → Loads u frame (Ok p) u'
loads {e} {f} u u' frame p none some stint of_pair order engine table = (
  subst (λ s. LoadAnswer e.largest s frame (Ok p)) (sym (ap (λ o. standing_at o (count_of (e.meaning u.engine))) none)) (of_pair, order),
  record {
    standing = ap₂ standing_at some (ap count_of engine);
    stint = stint;
    unmoved = λ e. absurd (true≢false e);
    stands = λ _. record { pair = some; along = along_start f.first f.turns p _ _ engine table };
  },
)

-- what the type keeps of a unit at the start of a run
pub placed_first : {T : Type 0} (first : AdmittedPair → T) (turns : T → Command → T) (p : AdmittedPair) (m : Meaning) (t : T) → m ≡ held (order_of p) (start_of p) → t ≡ first p → Placed first turns (Some p) m t
placed_first first turns p m t engine table q e =
    let a = subst (λ (k : ℕ). Along first turns p k m t) (sym (ap count_of engine)) (along_start first turns p m t engine table) in
    ∣ subst (λ x. Along first turns x (count_of m) m t) (same_Some p q e) a ∣₁
