-- Parity and halves of whole numbers: what `odd`, `half` and `fourfold` tell.
use Rattle.std.proofs.Common.{◌≡◌, Bool, true, false, ◌&&◌, ℤ, pos, ◌+ℤ◌, ◌*ℤ◌, neg_ℤ, nat_abs, arith}
use mathlib.Core.Bool.{xor}
use Rattle.std.proofs.lemmas.Int.{ints, unsigned_abs-mul}
use Rattle.std.proofs.lemmas.Nat.{mul-mod}
use Rattle.std.proofs.lemmas.Bool.Decides.{nat_tests}
use Rattle.rule.specs.Kind.{sign_by, summed}
use Rattle.rule.specs.Whole.{odd, half, fourfold, whole}

pub odd_yes : (z : ℤ) → odd z ≡ true → z ≡ half z +ℤ half z +ℤ pos 1
unfolding odd half
odd_yes z e = grind (arith, ints, nat_tests)

pub odd_no : (z : ℤ) → odd z ≡ false → z ≡ half z +ℤ half z
unfolding odd half
odd_no z e = grind (arith, ints, nat_tests)

pub odd_double : (z h : ℤ) → z ≡ h +ℤ h → odd z ≡ false
unfolding odd
odd_double z h e = grind (arith, ints, nat_tests)

-- ---- odd x and y: their sum or difference, whichever 4 divides, is halved exactly, and its half is even
pub record Joins (x y m : ℤ) (r : Bool) : Type 0 where
  pub even : odd m ≡ false
  pub twice : m +ℤ m ≡ summed whole (sign_by r) x y

pub joins : (x y : ℤ) (r : Bool) → odd x ≡ true → odd y ≡ true → fourfold (x +ℤ y) ≡ r → Joins x y (half (summed whole (sign_by r) x y)) r
unfolding odd half fourfold
joins x y true e f g = grind (arith, ints, nat_tests)
joins x y false e f g = grind (arith, ints, nat_tests)

-- ---- parity of sums and products, as booleans
pub odd_add : (x y : ℤ) → odd (x +ℤ y) ≡ xor (odd x) (odd y)
unfolding odd xor
odd_add x y = grind (arith, ints, nat_tests)

pub odd_neg : (x : ℤ) → odd (neg_ℤ x) ≡ odd x
unfolding odd
odd_neg x = grind (arith, ints, nat_tests)

pub odd_mul : (x y : ℤ) → odd (x *ℤ y) ≡ (odd x && odd y)
unfolding odd
odd_mul x y = rw (unsigned_abs-mul x y, mul-mod (nat_abs x) (nat_abs y) 2) (grind (arith, nat_tests))

pub ruleset parity = (odd_add, odd_neg, odd_mul)
