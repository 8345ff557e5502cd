-- What an engine over an engine holds.
use Rattle.std.specs.Prelude.{Bool, true, false}
use Rattle.engine.specs.Meaning.{Meaning, idle}

-- nothing before its own first begin, and then what the engine below holds
abbrev pub relayed : Bool → Meaning → Meaning
relayed false m = idle
relayed true m = m
