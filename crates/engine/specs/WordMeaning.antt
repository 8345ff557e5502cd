-- What the word engine holds.
use Rattle.std.specs.Prelude.{Some, None, Option}
use Rattle.engine.specs.Meaning.{Meaning, idle, held}
use Rattle.engine.specs.Words.{state_of}
use Rattle.engine.specs.declared.word.Held.{Held}
use Rattle.engine.specs.declared.word.WordEngine.{WordEngine}

-- Idle, or the order and the state of its place on a run.
abbrev held_meaning : Option Held → Meaning
held_meaning None = idle
held_meaning (Some h) = held h.order.value (state_of h.registers)

abbrev pub word_meaning : WordEngine → Meaning
word_meaning e = held_meaning e.held
