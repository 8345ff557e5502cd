-- Which orders and pairs are admitted.
use Rattle.std.specs.Prelude.{ℕ, ◌≤◌, ℤ, pos, ◌≢◌}
use Rattle.rule.specs.Whole.{Below}

abbrev pub OrderAdmitted : ℕ → Type 0
OrderAdmitted n = (1 ≤ n) × (n ≤ 56)

-- Both operands lie strictly between -2^n and 2^n, and b is not 0.
abbrev pub OperandsAdmitted : ℕ → ℤ → ℤ → Type 0
OperandsAdmitted n a b = Below n a × Below n b × (b ≢ pos 0)
