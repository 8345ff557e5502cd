-- What is shown of the rule over whole numbers.
use Rattle.std.specs.Prelude.{◌≡◌, ℕ, ◌+◌, ◌*◌, ◌≤◌, ℤ, pos, ◌≢◌, unsigned_abs}
use Rattle.rule.specs.Kind.{Laws}
use Rattle.rule.specs.Rule.{State, start, command, next, after, Need}
use Rattle.rule.specs.Whole.{whole, Below, Exact}
use Rattle.rule.specs.Divisor.{Greatest, divisor}

-- Whole numbers keep the laws that the bound on commands rests on.
abbrev pub WholeIsLawful : Type 0
WholeIsLawful = Laws whole Below

-- Only even numbers are halved.
abbrev pub HalvingsAreExact : Type 0
HalvingsAreExact = (s : State ℤ) → Exact (command whole s) s (next whole s)

-- The run of two numbers below 2^n in size has a need, and it is at most 4n + 1.
abbrev pub NeedIsBounded : Type 0
NeedIsBounded = (n : ℕ) (x y : ℤ) → Below n x → Below n y → (m : ℕ) × Need whole (start x y) m × (m ≤ 4 * n + 1)

-- A run has no more than one need.
abbrev pub NeedIsUnique : Type 0
NeedIsUnique = (s : State ℤ) (m n : ℕ) → Need whole s m → Need whole s n → m ≡ n

-- How far the numbers of a state of order n can go.
pub record Narrow (n : ℕ) (s : State ℤ) : Type 0 where
  pub a : Below n s.a
  pub b : Below n s.b
  pub δ : unsigned_abs s.δ ≤ n
  pub twos : s.twos ≤ n
  pub count : s.count ≤ 4 * n + 1

-- Every state of a run, up to its end, is narrow.
abbrev pub RunIsNarrow : Type 0
RunIsNarrow = (n : ℕ) (x y : ℤ) → Below n x → Below n y → (m : ℕ) → Need whole (start x y) m → (j : ℕ) → j ≤ m → Narrow n (after whole j (start x y))

-- At the end |a| times 2^twos is the greatest common divisor of what the run began with.
abbrev pub DivisorIsGreatest : Type 0
DivisorIsGreatest = (x y : ℤ) → (y ≢ pos 0) → (m : ℕ) → Need whole (start x y) m → Greatest (divisor (after whole m (start x y))) x y
