-- The law over every history of a unit.
use Rattle.std.specs.Prelude.{◌≡◌, ℕ, ◌+◌, ◌-◌, ◌*◌, ◌<◌, ◌≤◌, min, true, List, [], ◌∷◌, is_ok, Some, None, Ok, Err, vec_items, Result, ◌==◌}
use Rattle.rule.specs.Pairs.{order_of, start_of}
use Rattle.rule.specs.Rule.{Need}
use Rattle.rule.specs.Whole.{whole}
use Rattle.rule.specs.declared.fault.Fault.{Fault}
use Rattle.rule.specs.declared.fault.Reason.TheVariants.{RunNotOver}
use Rattle.rule.specs.declared.pair.AdmittedPair.{AdmittedPair}
use Rattle.frame.specs.Frames.{frame_of}
use Rattle.frame.specs.Results.{result_frame}
use Rattle.frame.specs.declared.reduction.Reduction.{Reduction}
use Rattle.unit.specs.Answers.{refusal, LoadAnswer, stint_answer, WorkAnswer, WritesIfRoom, CollectAnswer, clear_answer}
use Rattle.reduction.specs.Results.{ResultOf, RightResult}
use Rattle.unit.specs.Standing.{Standing, holds}
use Rattle.session.specs.History.{Event, load, stint, work, collect, clear, WorkDone, Held, sum_of, held_in, stint_in, standing}

-- ---- every call

-- The call is answered as it must be by a unit that stands so, with this stint.
abbrev pub Answered : ℕ → Standing → ℕ → Event → Type 0
Answered largest s n (load frame r) = LoadAnswer largest s (vec_items frame) r
Answered largest s n (stint most r) = r ≡ stint_answer most
Answered largest s n (work budget r) = WorkAnswer s n budget r
Answered largest s n (collect before r after) = CollectAnswer s (vec_items before) r (vec_items after)
Answered largest s n (clear r) = r ≡ clear_answer s

-- So is each call of a history, by what the events before it have left.
abbrev pub AllAnswered : ℕ → ℕ → List Event → Type 0
AllAnswered largest n [] = Unit {0}
AllAnswered largest n (e ∷ h) = Answered largest (standing (held_in h)) (stint_in n h) e × AllAnswered largest n h

-- ---- an empty unit

-- A unit that stands so takes every admitted pair of an order up to the largest: whatever a load of its frame answers is no refusal.
abbrev pub TakesAll : ℕ → Standing → Type 0
TakesAll largest s = (p : AdmittedPair) → order_of p ≤ largest → (r : Result AdmittedPair Fault) → LoadAnswer largest s (frame_of p) r → is_ok r ≡ true

-- ---- a unit that holds a pair

-- Each work answered the lesser of its budget and what was left, and said that the run is over exactly where it left nothing.
abbrev pub WorksRight : ℕ → List WorkDone → Type 0
WorksRight need [] = Unit {0}
WorksRight need (w ∷ ws) = (w.1.done ≡ min w.0 (need - sum_of ws)) × (w.1.over ≡ (need - sum_of ws - w.1.done == 0)) × WorksRight need ws

-- (a) The pair has a need of at most 4n + 1, the sum of what its works answered is at most that, and each work is right.
pub record Counted (o : Held) : Type 0 where
  pub need : ℕ
  pub needs : Need whole (start_of o.pair) need
  pub bound : need ≤ 4 * order_of o.pair + 1
  pub within : sum_of o.works ≤ need
  pub works : WorksRight need o.works

-- A collect that is not refused wrote the frame of the pair's result, which is right; the count in it is the sum, and the need. One that is
-- refused wrote nothing.
abbrev pub CollectedRight : AdmittedPair → ℕ → ℕ → List ℕ → Result ℕ Fault → List ℕ → Type 0
CollectedRight p need sum before (Ok m) after = (n : Reduction) × ResultOf p need n × RightResult p n × (n.count ≡ sum) × WritesIfRoom (result_frame n) before (Ok m) after
CollectedRight p need sum before (Err f) after = after ≡ before

-- (b) A collect is refused by 23 exactly where the sum is below the need, and gives what it should where it is not refused.
pub record CollectLaw (p : AdmittedPair) (need sum : ℕ) (before : List ℕ) (r : Result ℕ Fault) (after : List ℕ) : Type 0 where
  pub early : sum < need → r ≡ refusal RunNotOver
  pub only_early : r ≡ refusal RunNotOver → sum < need
  pub collected : CollectedRight p need sum before r after

-- Of a pair that is held: its need and its works, and whatever a collect now answers.
pub record HeldLaw (o : Held) : Type 0 where
  pub counted : Counted o
  pub collects : (before : List ℕ) (r : Result ℕ Fault) (after : List ℕ) → CollectAnswer (holds o.pair (sum_of o.works)) before r after → CollectLaw o.pair counted.need (sum_of o.works) before r after

-- ---- the law

-- Of a history that began with nothing held and stint n, and of the unit that it leaves.
pub record Lawful (largest n : ℕ) (h : List Event) : Type 0 where
  pub answered : AllAnswered largest n h
  pub free : held_in h ≡ None → TakesAll largest (standing (held_in h))
  pub held : (o : Held) → held_in h ≡ Some o → HeldLaw o

-- So it is at every point of a history: of it and of each of its beginnings.
abbrev pub Throughout : ℕ → ℕ → List Event → Type 0
Throughout largest n [] = Lawful largest n []
Throughout largest n (e ∷ h) = Lawful largest n (e ∷ h) × Throughout largest n h
