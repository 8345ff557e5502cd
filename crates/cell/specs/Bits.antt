-- The bits of whole numbers, lowest first, and one place of a sum or a difference.
use Rattle.std.specs.Prelude.{ℕ, zero, suc, Bool, ◌&&◌, ◌||◌, not, ℤ}
use Rattle.std.specs.Bool.{beq}
use Rattle.rule.specs.Whole.{odd, half}
use Rattle.rule.specs.declared.command.Sign.{Sign}
use Rattle.rule.specs.declared.command.Sign.TheVariants.{Plus, Minus}

-- Bit j of z in two's complement.
unfoldable pub bit : ℕ → ℤ → Bool
bit zero z = odd z
bit (suc j) z = bit j (half z)

-- Exactly one of the two is set.
abbrev pub differ : Bool → Bool → Bool
differ x y = not (beq x y)

-- The lowest bit of x + y + c, and of x - y - c.
abbrev pub sum_bit : Bool → Bool → Bool → Bool
sum_bit x y c = differ (differ x y) c

-- At least two of the three are set.
abbrev pub most : Bool → Bool → Bool → Bool
most x y z = (x && y) || (x && z) || (y && z)

-- What x + y + c carries into the next place, and what x - y - c borrows from it.
abbrev pub carried : Sign → Bool → Bool → Bool → Bool
carried Plus x y c = most x y c
carried Minus x y c = most (not x) y c
