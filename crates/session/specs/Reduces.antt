-- What the reduction of one frame gives.
use Rattle.std.specs.Prelude.{◌≡◌, ℕ, ◌+◌, ◌*◌, ◌≤◌, ◌⊎◌, List, Some, None, Err, Option, Result}
use Rattle.rule.specs.Pairs.{order_of, start_of}
use Rattle.rule.specs.Rule.{Need}
use Rattle.rule.specs.Whole.{whole}
use Rattle.rule.specs.declared.fault.Fault.{Fault}
use Rattle.rule.specs.declared.fault.Reason.TheVariants.{PairHeld}
use Rattle.rule.specs.declared.pair.AdmittedPair.{AdmittedPair}
use Rattle.frame.specs.Frames.{frame_of}
use Rattle.frame.specs.Reading.{reading}
use Rattle.frame.specs.Results.{result_frame}
use Rattle.frame.specs.declared.reduction.Reduction.{Reduction}
use Rattle.engine.specs.declared.engine.Engine as Engine
use Rattle.follower.specs.declared.follower.Follower as Follower
use Rattle.unit.specs.Answers.{refusal, load_objection, WritesIfRoom}
use Rattle.unit.specs.Calls.{contents}
use Rattle.reduction.specs.Results.{ResultOf, RightResult}
use Rattle.unit.specs.declared.unit.Unit.{Unit as AnyUnit}

-- There is something against the frame, and so it is refused and nothing is written.
pub record FrameRefused (largest : ℕ) (frame before : List ℕ) (r : Result ℕ Fault) (after : List ℕ) : Type 0 where
  pub why : Fault
  pub objection : load_objection largest (reading frame) ≡ Some why
  pub answer : r ≡ Err why
  pub kept : after ≡ before

-- It is the frame of a pair, whose result is right, and the frame of the result is written, if there is room.
pub record FrameReduced (largest : ℕ) (frame before : List ℕ) (r : Result ℕ Fault) (after : List ℕ) : Type 0 where
  pub pair : AdmittedPair
  pub of_pair : frame ≡ frame_of pair
  pub order : order_of pair ≤ largest
  pub need : ℕ
  pub needs : Need whole (start_of pair) need
  pub bound : need ≤ 4 * order_of pair + 1
  pub result : Reduction
  pub of_result : ResultOf pair need result
  pub right : RightResult pair result
  pub writes : WritesIfRoom (result_frame result) before r after

-- By what the unit held before: nothing, and then it holds nothing again; or a pair, which is left alone.
abbrev pub ReducesBy : {E F : Type 0} {e : Engine.Ghosts E} {f : Follower.Ghosts F} → Option AdmittedPair → AnyUnit E F e f → List ℕ → List ℕ → Result ℕ Fault → List ℕ → AnyUnit E F e f → Type 0
ReducesBy {e} None u frame before r after u' = (u'.pair ≡ None) × (u'.stint ≡ u.stint) × (FrameRefused e.largest frame before r after ⊎ FrameReduced e.largest frame before r after)
ReducesBy (Some p) u frame before r after u' = (r ≡ refusal PairHeld) × (after ≡ before) × (contents u' ≡ contents u)

-- What the reduction of a frame on a unit gives and leaves.
abbrev pub ReducesFrame : {E F : Type 0} {e : Engine.Ghosts E} {f : Follower.Ghosts F} → AnyUnit E F e f → List ℕ → List ℕ → Result ℕ Fault → List ℕ → AnyUnit E F e f → Type 0
ReducesFrame u frame before r after u' = ReducesBy u.pair u frame before r after u'
