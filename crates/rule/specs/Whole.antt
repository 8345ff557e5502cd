-- Whole numbers as operands of the rule, and what it means that its halvings are exact.
use Rattle.std.specs.Prelude.{◌≡◌, ℕ, ◌%◌, ◌^◌, ◌<◌, Bool, ℤ, ◌+ℤ◌, ◌-ℤ◌, ◌==◌, unsigned_abs}
use Rattle.std.specs.Int.Signed.{shr_z}
use Rattle.rule.specs.Kind.{Kind, summed}
use Rattle.rule.specs.Rule.{State, exchanged}
use Rattle.rule.specs.declared.command.Command.{Command}
use Rattle.rule.specs.declared.command.Command.TheVariants.{Both, Cross, Shift, PlusMinus}

abbrev pub is_zero : ℤ → Bool
is_zero z = unsigned_abs z == 0

unfoldable pub odd : ℤ → Bool
odd z = unsigned_abs z % 2 == 1

-- 4 divides z.
unfoldable pub fourfold : ℤ → Bool
fourfold z = unsigned_abs z % 4 == 0

-- Half of z, rounded down.
unfoldable pub half : ℤ → ℤ
half z = shr_z z 2

-- Whole numbers as a kind.
abbrev pub whole : Kind ℤ
whole = record { is_zero = is_zero; odd = odd; fourfold = fourfold; half = half; plus = ◌+ℤ◌; minus = ◌-ℤ◌ }

-- z lies strictly between -2^n and 2^n.
abbrev pub Below : ℕ → ℤ → Type 0
Below n z = unsigned_abs z < 2 ^ n

-- What a command halved on the way from s to t is twice its half, with nothing lost.
abbrev pub Exact : Command → State ℤ → State ℤ → Type 0
Exact Both s t = (t.a +ℤ t.a ≡ s.a) × (t.b +ℤ t.b ≡ s.b)
Exact Cross s t = t.b +ℤ t.b ≡ s.a
Exact Shift s t = t.b +ℤ t.b ≡ s.b
Exact (PlusMinus g x) s t = t.b +ℤ t.b ≡ summed whole g (exchanged x s).a (exchanged x s).b
