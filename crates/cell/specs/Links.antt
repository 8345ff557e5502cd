-- The links that stand for a state of the rule.
use Rattle.std.specs.Prelude.{ℕ, zero, suc, true, false, ℤ, pos}
use Rattle.rule.specs.Rule.{State}
use Rattle.cell.specs.Bits.{bit}
use Rattle.cell.specs.declared.link.Link.{Link}

-- A link that says nothing.
abbrev pub blank : Link
blank = record { start = false; a = false; b = false; delta = pos 0; twos = 0 }

-- Link j of a state has bit j of a and b; the lowest has the start mark, δ and twos beside it.
unfoldable pub links : State ℤ → ℕ → Link
links s zero = record { start = true; a = bit 0 s.a; b = bit 0 s.b; delta = s.δ; twos = s.twos }
links s (suc j) = record { start = false; a = bit (suc j) s.a; b = bit (suc j) s.b; delta = pos 0; twos = 0 }
