-- The sign of a number, and turning it.
use Rattle.std.specs.Prelude.{Bool, true, false, ℤ, pos, neg_ℤ, int_lt}

abbrev pub is_negative : ℤ → Bool
is_negative z = int_lt z (pos 0)

-- z, negated where the mark is set.
abbrev pub negated_by : Bool → ℤ → ℤ
negated_by true z = neg_ℤ z
negated_by false z = z
