-- How large the numbers of a reduction can be.
use Rattle.std.specs.Prelude.{ℕ, ℤ, pos}
use Rattle.rule.specs.Whole.{Below}

-- Each of g, u, v, the numerator p and the denominator q is below 2^n in size.
abbrev pub Fit : ℕ → ℕ → ℤ → ℤ → ℤ → ℤ → Type 0
Fit n g u v p q = Below n (pos g) × Below n u × Below n v × Below n p × Below n q
