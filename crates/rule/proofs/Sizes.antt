-- Sizes of products of whole numbers.
use Rattle.std.proofs.Common.{◌≡◌, ℕ, ◌*◌, ◌^◌, ◌<◌, ◌≤◌, ℤ, pos, ◌*ℤ◌, nat_abs, sym, ap, ◌∙◌, arith, pow_pos}
use lib.IntN.{*ℤ-zero, zero-*ℤ}
use Rattle.std.proofs.lemmas.Int.{ints, unsigned_abs-mul}

-- a factor of a number is no larger, unless the other is 0
pub factor_most : (u v z : ℤ) → u *ℤ v ≡ z → (v ≡ pos 0 → ⊥) → nat_abs u ≤ nat_abs z
factor_most u v z e n =
    let p : nat_abs z ≡ nat_abs u * nat_abs v = ap nat_abs (sym e) ∙ unsigned_abs-mul u v in
    let l : 0 < nat_abs v = omega (arith, ints) in
    grind arith

-- the factors of a number other than 0 are not 0
pub left_some : (u v z : ℤ) → u *ℤ v ≡ z → (z ≡ pos 0 → ⊥) → u ≡ pos 0 → ⊥
left_some u v z e n f = n (simp (← e, f, zero-*ℤ))

pub right_some : (u v z : ℤ) → u *ℤ v ≡ z → (z ≡ pos 0 → ⊥) → v ≡ pos 0 → ⊥
right_some u v z e n f = n (simp (← e, f, *ℤ-zero))

pub pow_some : (t : ℕ) → pos (2 ^ t) ≡ pos 0 → ⊥
pow_some t e = omega (arith, ints, pow_pos t)
