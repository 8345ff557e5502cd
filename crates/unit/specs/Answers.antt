-- What each call of a unit answers, by where the unit stands, and where it stands then.
use Rattle.std.specs.Prelude.{◌≡◌, ℕ, zero, suc, ◌+◌, ◌≤◌, min, cond, ◌&&◌, List, length, Some, None, Ok, Err, Option, Result, ◌==◌, nat_le}
use Rattle.rule.specs.Pairs.{order_of, start_of}
use Rattle.rule.specs.Refusal.{fault}
use Rattle.rule.specs.Rule.{Need}
use Rattle.rule.specs.Whole.{whole}
use Rattle.rule.specs.declared.fault.Fault.{Fault}
use Rattle.rule.specs.declared.fault.Layer.TheVariants.{Unit as UnitLayer, Engine}
use Rattle.rule.specs.declared.fault.Reason.{Reason}
use Rattle.rule.specs.declared.fault.Reason.TheVariants.{BudgetOutOfRange, PairHeld, NothingHeld, RunNotOver, RunOver, OrderAboveLargest}
use Rattle.rule.specs.declared.pair.AdmittedPair.{AdmittedPair}
use Rattle.frame.specs.Frames.{frame_of}
use Rattle.frame.specs.Reading.{Reading, refused, read, reading}
use Rattle.frame.specs.Results.{result_frame}
use Rattle.frame.specs.Writing.{Writes}
use Rattle.frame.specs.declared.reduction.Reduction.{Reduction}
use Rattle.reduction.specs.Results.{ResultOf, RightResult}
use Rattle.unit.specs.Standing.{Standing, empty, holds}
use Rattle.unit.specs.declared.unit.Worked.{Worked}

-- A refusal by the unit, which names no place.
abbrev pub refusal : {X : Type 0} → Reason → Result X Fault
refusal r = Err (fault r UnitLayer 0)

-- ---- load

-- What an empty unit has against what was read of a frame: what the frame has, and then an order above the engine's largest.
abbrev pub load_objection : ℕ → Reading → Option Fault
load_objection largest (refused f) = Some f
load_objection largest (read n a b) = cond (nat_le n largest) None (Some (fault OrderAboveLargest Engine 0))

-- The pair whose frame it is, or what an empty unit has against it; one that holds a pair refuses.
abbrev pub LoadAnswer : ℕ → Standing → List ℕ → Result AdmittedPair Fault → Type 0
LoadAnswer largest empty frame (Ok p) = (frame ≡ frame_of p) × (order_of p ≤ largest)
LoadAnswer largest empty frame (Err f) = load_objection largest (reading frame) ≡ Some f
LoadAnswer largest (holds p k) frame r = r ≡ refusal PairHeld

-- A load that is not refused leaves the unit at the start of the pair's run.
abbrev pub loaded_to : Standing → Result AdmittedPair Fault → Standing
loaded_to s (Ok p) = holds p 0
loaded_to s (Err f) = s

-- ---- stint

-- A stint is refused outside 1 to 225.
abbrev pub stint_answer : ℕ → Result (Unit {0}) Fault
stint_answer most = cond (nat_le 1 most && nat_le most 225) (Ok tt) (refusal BudgetOutOfRange)

-- The stint after that.
abbrev pub stinted_to : ℕ → ℕ → Result (Unit {0}) Fault → ℕ
stinted_to stint most (Ok _) = most
stinted_to stint most (Err f) = stint

-- ---- work

-- With so many commands left: the lesser of these and the budget is done, and the run is over if the budget reaches.
abbrev pub work_answer : ℕ → ℕ → ℕ → Result Worked Fault
work_answer left stint budget =
    cond (left == 0) (refusal RunOver)
    (cond (nat_le 1 budget && nat_le budget stint) (Ok (record { done = min budget left; over = nat_le left budget })) (refusal BudgetOutOfRange))

-- A work on a unit that holds p: what is left is the need of p less what was done.
pub record WorksOn (p : AdmittedPair) (k stint budget : ℕ) (r : Result Worked Fault) : Type 0 where
  pub left : ℕ
  pub need : Need whole (start_of p) (k + left)
  pub answer : r ≡ work_answer left stint budget

-- An empty unit refuses a work.
abbrev pub WorkAnswer : Standing → ℕ → ℕ → Result Worked Fault → Type 0
WorkAnswer empty stint budget r = r ≡ refusal NothingHeld
WorkAnswer (holds p k) stint budget r = WorksOn p k stint budget r

-- A work that is not refused leaves the unit as many commands further as it answers.
abbrev pub worked_to : Standing → Result Worked Fault → Standing
worked_to empty r = empty
worked_to (holds p k) (Ok w) = holds p (k + w.done)
worked_to (holds p k) (Err f) = holds p k

-- ---- collect

-- A frame is written where the buffer has room for it, and refused elsewhere.
abbrev pub WritesIfRoom : List ℕ → List ℕ → Result ℕ Fault → List ℕ → Type 0
WritesIfRoom frame before (Ok m) after = (length frame ≤ length before) × Writes frame before (Ok m) after
WritesIfRoom frame before (Err f) after = Writes frame before (Err f) after

-- With nothing left the frame of the result, which is right, is written where there is room; with something left it is refused.
abbrev pub CollectsLeft : ℕ → AdmittedPair → ℕ → List ℕ → Result ℕ Fault → List ℕ → Type 0
CollectsLeft zero p k before r after = (n : Reduction) × ResultOf p k n × RightResult p n × WritesIfRoom (result_frame n) before r after
CollectsLeft (suc left) p k before r after = (r ≡ refusal RunNotOver) × (after ≡ before)

-- A collect from a unit that holds p: what is left is the need of p less what was done.
pub record CollectsFrom (p : AdmittedPair) (k : ℕ) (before : List ℕ) (r : Result ℕ Fault) (after : List ℕ) : Type 0 where
  pub left : ℕ
  pub need : Need whole (start_of p) (k + left)
  pub answer : CollectsLeft left p k before r after

-- An empty unit refuses a collect, and writes nothing.
abbrev pub CollectAnswer : Standing → List ℕ → Result ℕ Fault → List ℕ → Type 0
CollectAnswer empty before r after = (r ≡ refusal NothingHeld) × (after ≡ before)
CollectAnswer (holds p k) before r after = CollectsFrom p k before r after

-- ---- clear

-- Only an empty unit refuses.
abbrev pub clear_answer : Standing → Result (Unit {0}) Fault
clear_answer empty = refusal NothingHeld
clear_answer (holds p k) = Ok tt
