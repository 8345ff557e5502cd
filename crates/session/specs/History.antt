-- Histories: the calls of a unit with what they answered, the newest first, and what they leave held.
use Rattle.std.specs.Prelude.{ℕ, ◌+◌, List, [], ◌∷◌, Some, None, Ok, Err, Option, Result, Vec}
use Rattle.std.specs.declared.alloc.Global.{Global}
use Rattle.rule.specs.declared.fault.Fault.{Fault}
use Rattle.rule.specs.declared.pair.AdmittedPair.{AdmittedPair}
use Rattle.unit.specs.Answers.{stinted_to}
use Rattle.unit.specs.Standing.{Standing, empty, holds}
use Rattle.unit.specs.declared.unit.Worked.{Worked}
use Rattle.session.specs.declared.call.Answer.{Answer}
use Rattle.session.specs.declared.call.Answer.TheVariants.{Loaded, Stinted, Worked as WorkedAnswer, Collected, Cleared}
use Rattle.session.specs.declared.call.Call.{Call}
use Rattle.session.specs.declared.call.Call.TheVariants.{Load, Stint, Work, Collect, Clear}

-- A call with its argument and its answer; a collect with its buffer before and after.
pub data Event : Type 0 where
  load : Vec ℕ Global → Result AdmittedPair Fault → Event
  stint : ℕ → Result (Unit {0}) Fault → Event
  work : ℕ → Result Worked Fault → Event
  collect : Vec ℕ Global → Result ℕ Fault → Vec ℕ Global → Event
  clear : Result (Unit {0}) Fault → Event

-- The call of an event.
abbrev pub call_of : Event → Call
call_of (load frame r) = Load frame
call_of (stint most r) = Stint most
call_of (work budget r) = Work budget
call_of (collect before r after) = Collect before
call_of (clear r) = Clear

-- What it answered.
abbrev pub answer_of : Event → Answer
answer_of (load frame r) = Loaded r
answer_of (stint most r) = Stinted r
answer_of (work budget r) = WorkedAnswer r
answer_of (collect before r after) = Collected r after
answer_of (clear r) = Cleared r

-- A work that was not refused: its budget and what it answered.
abbrev pub WorkDone : Type 0
WorkDone = ℕ × Worked

-- A pair that is held, and its works since it was loaded, the newest first.
pub record Held : Type 0 where
  pub pair : AdmittedPair
  pub works : List WorkDone

-- The sum of what works answered.
abbrev pub sum_of : List WorkDone → ℕ
sum_of [] = 0
sum_of (w ∷ ws) = sum_of ws + w.1.done

-- One work more of what is held.
abbrev pub worked_more : WorkDone → Option Held → Option Held
worked_more w None = None
worked_more w (Some h) = Some (record { pair = h.pair; works = w ∷ h.works })

-- A load that is not refused takes its pair, which is held until a clear that is not refused.
abbrev pub held_after : Event → Option Held → Option Held
held_after (load frame (Ok p)) o = Some (record { pair = p; works = [] })
held_after (load frame (Err f)) o = o
held_after (stint most r) o = o
held_after (work budget (Ok w)) o = worked_more (budget, w) o
held_after (work budget (Err f)) o = o
held_after (collect before r after) o = o
held_after (clear (Ok _)) o = None
held_after (clear (Err f)) o = o

-- What is held after a history that began with nothing held.
abbrev pub held_in : List Event → Option Held
held_in [] = None
held_in (e ∷ h) = held_after e (held_in h)

-- A stint that is not refused is the stint from then on.
abbrev pub stint_after : Event → ℕ → ℕ
stint_after (load frame r) n = n
stint_after (stint most r) n = stinted_to n most r
stint_after (work budget r) n = n
stint_after (collect before r after) n = n
stint_after (clear r) n = n

-- The stint after a history that began with stint n.
abbrev pub stint_in : ℕ → List Event → ℕ
stint_in n [] = n
stint_in n (e ∷ h) = stint_after e (stint_in n h)

-- Where a unit that holds this stands: as many commands into the run as the works have answered.
abbrev pub standing : Option Held → Standing
standing None = empty
standing (Some h) = holds h.pair (sum_of h.works)
