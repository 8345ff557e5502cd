-- What the registers of the word engine mean.
use Rattle.std.specs.Prelude.{ℤ}
use Rattle.rule.specs.Rule.{State}
use Rattle.engine.specs.declared.registers.Registers.{Registers}

-- The state of the rule that the registers hold.
abbrev pub state_of : Registers → State ℤ
state_of r = record { a = r.a; b = r.b; δ = r.delta; twos = r.twos; count = r.count }
