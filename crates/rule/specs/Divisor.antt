-- The greatest common divisor of two whole numbers, and what the rule gives for it.
use Rattle.std.specs.Prelude.{◌≡◌, ℕ, ◌*◌, ◌^◌, ◌≤◌, cond, ◌&&◌, ℤ, pos, ◌*ℤ◌, Some, None, Option, nat_lt, unsigned_abs}
use Rattle.rule.specs.Rule.{State}

-- d divides z: z is d times some whole number.
pub record Divides (d z : ℤ) : Type 0 where
  pub quotient : ℤ
  pub exact : z ≡ d *ℤ quotient

-- g is the greatest number that divides both x and y.
pub record Greatest (g : ℕ) (x y : ℤ) : Type 0 where
  pub divides_x : Divides (pos g) x
  pub divides_y : Divides (pos g) y
  pub greatest : (d : ℕ) → Divides (pos d) x → Divides (pos d) y → d ≤ g

-- |a| times 2^twos.
abbrev pub divisor : State ℤ → ℕ
divisor s = unsigned_abs s.a * 2 ^ s.twos

-- |z| times 2^t, if it is below 2^64 and t below 64.
abbrev pub scaled : ℤ → ℕ → Option ℕ
scaled z t = cond (nat_lt t 64 && nat_lt (unsigned_abs z * 2 ^ t) (2 ^ 64)) (Some (unsigned_abs z * 2 ^ t)) None
