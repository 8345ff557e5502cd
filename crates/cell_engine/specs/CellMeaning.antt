-- What the cell engine holds.
use Rattle.std.specs.Prelude.{ℤ, Some, None, Option}
use Rattle.rule.specs.Rule.{State}
use Rattle.engine.specs.Meaning.{Meaning, idle, held}
use Rattle.cell_engine.specs.Words.{standing}
use Rattle.cell_engine.specs.declared.bitwise.Held.{Held}
use Rattle.cell_engine.specs.declared.bitwise.CellEngine.{CellEngine}

-- The state of the rule at a place on a run.
abbrev pub state_of : Held → State ℤ
state_of h = standing h.a h.b h.delta h.twos h.count

-- Idle, or the order and the state of its place on a run.
abbrev held_meaning : Option Held → Meaning
held_meaning None = idle
held_meaning (Some h) = held h.order.value (state_of h)

abbrev pub cell_meaning : CellEngine → Meaning
cell_meaning e = held_meaning e.held
