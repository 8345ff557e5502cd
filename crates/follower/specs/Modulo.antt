-- Numbers equal modulo w: sums, differences and multiples, and the number of small size that a residue stands for.
use Rattle.std.specs.Prelude.{◌≡◌, ℕ, zero, suc, ◌+◌, ◌-◌, ◌*◌, ◌/◌, ◌%◌, ◌^◌, ◌<◌, ◌≤◌, ◌⊎◌, ℤ, pos, negsuc, ◌+ℤ◌, ◌-ℤ◌, ◌*ℤ◌, neg_ℤ, unsigned_abs}
use Rattle.std.proofs.Common.{inl, inr, arith, pow-add, pow_pos}
use Rattle.std.proofs.lemmas.Int.{ints}
use Rattle.rule.proofs.Ring.{out, lin}
use Rattle.follower.specs.Fraction.{sum_in, difference_in, Same, modulus, read_signed}

pub same_refl : (w u : ℤ) → Same w u u
same_refl w u = record { times = pos 0; is = simp out (omega (arith, lin)) }

pub same-trans : {w u v z : ℤ} → Same w u v → Same w v z → Same w u z
same-trans {w} {u} {v} {z} h k = record { times = h.times +ℤ k.times; is = simp (h.is, out) (omega (arith, lin)) }

pub same_add : {w u v i j : ℤ} → Same w u v → Same w i j → Same w (u +ℤ i) (v +ℤ j)
same_add {w} {u} {v} {i} {j} h k = record { times = h.times +ℤ k.times; is = simp out (omega (arith, lin)) }

pub same-neg : {w u v : ℤ} → Same w u v → Same w (neg_ℤ u) (neg_ℤ v)
same-neg {w} {u} {v} h = record { times = neg_ℤ h.times; is = simp out (omega (arith, lin)) }

pub same-mul : {w u v : ℤ} (k : ℤ) → Same w u v → Same w (u *ℤ k) (v *ℤ k)
same-mul {w} {u} {v} k h = record { times = h.times *ℤ k; is = simp (h.is, out) (omega (arith, lin)) }

-- ---- what is kept modulo w
residue_same : (w z : ℕ) → Same (pos w) (pos (z % w)) (pos z)
residue_same w z = record { times = neg_ℤ (pos (z / w)); is = simp out (omega (arith, ints)) }

pub sum_same : {w x y : ℕ} {i j : ℤ} → Same (pos w) (pos x) i → Same (pos w) (pos y) j → Same (pos w) (pos (sum_in w x y)) (i +ℤ j)
sum_same {w} {x} {y} h k = same-trans (residue_same w (x + y)) (same_add h k)

pub difference_same : {w x y : ℕ} {i j : ℤ} → y ≤ w → Same (pos w) (pos x) i → Same (pos w) (pos y) j → Same (pos w) (pos (difference_in w x y)) (i -ℤ j)
difference_same {w} {x} {y} l h k = same-trans (residue_same w (x + (w - y))) (same-trans lifted (same_add h (same-neg k)))
  where
    lifted : Same (pos w) (pos (x + (w - y))) (pos x +ℤ neg_ℤ (pos y))
    lifted = record { times = pos 1; is = omega (arith, ints) }

-- ---- the number that a residue stands for
-- a residue near a small number is that number, or that number and w
near_by : (w q c : ℕ) (z m : ℤ) → 4 * q ≤ w → c < w → unsigned_abs z < q → pos c ≡ z +ℤ pos w *ℤ m → (pos c ≡ z) ⊎ (pos c ≡ z +ℤ pos w)
near_by w q c z (pos zero) l h k f = inl (omega (arith, ints))
near_by w q c z (pos (suc zero)) l h k f = inr (omega (arith, ints))
near_by w q c z (pos (suc (suc m))) l h k f = absurd (omega (arith, ints))
near_by w q c z (negsuc m) l h k f = absurd (omega (arith, ints))

pub pows : (n : ℕ) → (2 ^ (n + 2) ≡ 4 * 2 ^ n) × (2 ^ (n + 1) ≡ 2 * 2 ^ n)
pows n = grind (arith, pow-add)

pub modulus_many : (n : ℕ) → (0 < modulus n) × (1 < modulus n)
modulus_many n = grind (arith, pows, pow_pos)

pub read_is : (n c : ℕ) (z : ℤ) → c < modulus n → unsigned_abs z < 2 ^ n → Same (pos (modulus n)) (pos c) z → read_signed n c ≡ z
read_is n c z l h s = grind (arith, near_by, pows)
