-- What the numbers of the cell engine mean.
use Rattle.std.specs.Prelude.{ℕ, ℤ}
use Rattle.rule.specs.Rule.{State}

-- The state of the rule with these numbers.
abbrev pub standing : ℤ → ℤ → ℤ → ℕ → ℕ → State ℤ
standing a b d t c = record { a = a; b = b; δ = d; twos = t; count = c }
