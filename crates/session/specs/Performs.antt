-- What performing calls does to a unit.
use Rattle.std.specs.Prelude.{◌≡◌, ℕ, ◌<◌, ◌≤◌, List, map, reverse, length, None, Ok, Err, vec_items, Option, Result, Vec, ◌≢◌}
use Rattle.std.specs.declared.alloc.Global.{Global}
use Rattle.engine.specs.declared.engine.Engine as Engine
use Rattle.follower.specs.declared.follower.Follower as Follower
use Rattle.unit.specs.Calls.{contents, place}
use Rattle.unit.specs.Standing.{Stands}
use Rattle.unit.specs.declared.unit.Unit.{Unit as AnyUnit}
use Rattle.session.specs.History.{Event, call_of, answer_of, Held, held_after, held_in, stint_after, stint_in, standing}
use Rattle.session.specs.Law.{Answered, Throughout}
use Rattle.session.specs.declared.call.Answer.{Answer}
use Rattle.session.specs.declared.call.Call.{Call}
use Rattle.session.specs.declared.perform.Unperformed.{Unperformed}
use Rattle.session.specs.declared.perform.Unperformed.TheVariants.{PairHeld, NoRoom}

-- One call, performed: an event with this call and this answer, and what it leaves.
pub record Happened {E F : Type 0} {e : Engine.Ghosts E} {f : Follower.Ghosts F} (u : AnyUnit E F e f) (call : Call) (answer : Answer) (u' : AnyUnit E F e f) : Type 0 where
  pub event : Event
  pub of_call : call_of event ≡ call
  pub of_answer : answer_of event ≡ answer
  pub answered : Answered e.largest (place u) u.stint event
  pub left : (o : Option Held) → place u ≡ standing o → place u' ≡ standing (held_after event o)
  pub stint : u'.stint ≡ stint_after event u.stint

-- The calls and their answers are a history that is lawful throughout, and the unit is as that leaves it.
pub record Performed {E F : Type 0} {e : Engine.Ghosts E} {f : Follower.Ghosts F} (u : AnyUnit E F e f) (calls : List Call) (answers : List Answer) (u' : AnyUnit E F e f) : Type 0 where
  pub history : List Event
  pub of_calls : map call_of (reverse history) ≡ calls
  pub of_answers : map answer_of (reverse history) ≡ answers
  pub lawful : Throughout e.largest u.stint history
  pub stands : Stands f.first f.turns (standing (held_in history)) (contents u')
  pub stint : u'.stint ≡ stint_in u.stint history

-- So it is of an empty unit, where there is room for the answers. Elsewhere nothing is performed.
abbrev pub Performs : {E F : Type 0} {e : Engine.Ghosts E} {f : Follower.Ghosts F} → AnyUnit E F e f → List Call → ℕ → Result (Vec Answer Global) Unperformed → AnyUnit E F e f → Type 0
Performs u calls room (Ok answers) u' = (u.pair ≡ None) × (length calls ≤ room) × Performed u calls (vec_items answers) u'
Performs u calls room (Err PairHeld) u' = (u.pair ≢ None) × (contents u' ≡ contents u)
Performs u calls room (Err NoRoom) u' = (u.pair ≡ None) × (room < length calls) × (contents u' ≡ contents u)
