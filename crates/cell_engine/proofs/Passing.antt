-- The links that come back, and the numbers that they are read back to.
use Rattle.std.proofs.Common.{◌≡◌, ℕ, zero, suc, ◌+◌, ◌*◌, ◌^◌, ◌<◌, ◌≤◌, Bool, true, false, cond, ℤ, pos, negsuc, ◌+ℤ◌, ◌-ℤ◌, ◌*ℤ◌, neg_ℤ, ◌≤ℤ◌, ◌<ℤ◌, unsigned_abs, refl, ap, ◌∙◌, pow_mono, to_z, of_z, w64, SFits, arith}
use mir.Val.{bool_byte}
use Rattle.std.proofs.Math.IntN.{pos-*ℤ-pos, pos-*ℤ-negsuc}
use Rattle.std.proofs.Math.Numerals.{suc-eq-add-one}
use Rattle.std.proofs.Math.Nat.{pow-suc}
use Rattle.std.proofs.lemmas.Int.{ints, to_z-of_z, fits_signed_from_abs}
use Rattle.std.proofs.lemmas.Bool.Decides.{nat_tests}
use Rattle.rule.specs.Whole.{odd, half}
use Rattle.rule.proofs.Parity.{odd_yes, odd_no}
use Rattle.rule.proofs.Ring.{lin, *ℤ-dist-l, *ℤ-dist-r, *ℤ-unit}
use Rattle.cell.specs.Bits.{bit}
use Rattle.cell.specs.Cells.{gives, taken}
use Rattle.cell.specs.declared.link.Link.{Link}
use Rattle.cell_engine.specs.Passing.{plain, sent, Gives, Stands}
use Rattle.cell_engine.specs.declared.passage.Passage.{Passage}

-- ---- one link more
pub given : (p : Passage) (x y : ℤ) → Gives p x y → (taken p.cell (plain p.a p.b 0)).given ≡ plain x y 0
unfolding gives
given p x y h = h 0

pub still : (p : Passage) (x y : ℤ) → Gives p x y → Gives (sent p) (half x) (half y)
unfolding gives bit
still p x y h = λ k. h (suc k)

-- ---- a number of which the places below one of weight w are known
-- u stands above the places of v in z
abbrev pub Above : ℕ → ℤ → ℤ → ℤ → Type 0
Above w v u z = v +ℤ pos w *ℤ u ≡ z

-- v has no place at w or above
abbrev pub Within : ℕ → ℤ → Type 0
Within w v = (pos 0 ≤ℤ v) × (v <ℤ pos w)

doubled : (w : ℕ) (h : ℤ) → pos (2 * w) *ℤ h ≡ pos w *ℤ h +ℤ pos w *ℤ h
doubled w h =
    let e : pos (2 * w) ≡ pos w +ℤ pos w = omega (arith, ints) in
    rw e (*ℤ-dist-r (pos w) (pos w) h)

one_even : (w : ℕ) (v u h z : ℤ) → u ≡ h +ℤ h → Above w v u z → Above (2 * w) (v +ℤ pos 0) h z
one_even w v u h z e a =
    let p : pos w *ℤ u ≡ pos w *ℤ h +ℤ pos w *ℤ h = rw e (*ℤ-dist-l (pos w) h h) in
    omega (arith, lin, p, doubled w h, a)

one_odd : (w : ℕ) (v u h z : ℤ) → u ≡ h +ℤ h +ℤ pos 1 → Above w v u z → Above (2 * w) (v +ℤ pos w) h z
one_odd w v u h z e a =
    let p : pos w *ℤ u ≡ pos w *ℤ h +ℤ pos w *ℤ h +ℤ pos w = rw e (simp (*ℤ-dist-l, *ℤ-unit)) in
    omega (arith, lin, p, doubled w h, a)

one_by : (q : Bool) (w : ℕ) (v u z : ℤ) → odd u ≡ q → Above w v u z → Above (2 * w) (v +ℤ pos (cond q w 0)) (half u) z
one_by false w v u z o a = one_even w v u (half u) z (odd_no u o) a
one_by true w v u z o a = one_odd w v u (half u) z (odd_yes u o) a

-- one place more is known
pub one_more : (w : ℕ) (v u z : ℤ) → Above w v u z → Above (2 * w) (v +ℤ pos (cond (odd u) w 0)) (half u) z
one_more w v u z a = one_by (odd u) w v u z refl a

pub within_more : (q : Bool) (w : ℕ) (v : ℤ) → Within w v → Within (2 * w) (v +ℤ pos (cond q w 0))
within_more false w v h = omega (arith, ints, h)
within_more true w v h = omega (arith, ints, h)

-- the lowest place
pub one_first : (z : ℤ) → Above 2 (pos (cond (odd z) 1 0)) (half z) z
unfolding odd half
one_first z = grind (arith, ints, nat_tests)

-- what stands above all places of a number is its sign
signed : (w : ℕ) (v u z : ℤ) → Within w v → unsigned_abs z < w → Above w v u z → v -ℤ pos (cond (odd u) w 0) ≡ z
unfolding odd
signed w v (pos zero) z h l a = omega (arith, ints, a, h)
signed w v (pos (suc k)) z h l a =
    let p : pos w *ℤ pos (suc k) ≡ pos (w * k) +ℤ pos w = rw (pos-*ℤ-pos w (suc k)) (omega (arith, ints)) in
    absurd (omega (arith, lin, p, a, h, l))
signed w v (negsuc zero) z h l a =
    let p : pos w *ℤ negsuc zero ≡ neg_ℤ (pos w) = rw (pos-*ℤ-negsuc w zero) (omega (arith, ints)) in
    omega (arith, lin, p, a, h, l)
signed w v (negsuc (suc k)) z h l a =
    let p : pos w *ℤ negsuc (suc k) ≡ neg_ℤ (pos (w * k)) -ℤ pos w -ℤ pos w = rw (pos-*ℤ-negsuc w (suc k)) (omega (arith, ints)) in
    absurd (omega (arith, lin, p, a, h, l))

-- ---- both numbers on their way
-- the places of x and y below one of weight w are known, and the others are still to be given
pub record Got (p : Passage) (w : ℕ) (a b x y : ℤ) : Type 0 where
  pub u : ℤ
  pub v : ℤ
  pub rest : Gives p u v
  pub first : Above w a u x
  pub second : Above w b v y

-- by the first link
pub got_first : {p : Passage} {l : Link} {last : ℕ} (x y : ℤ) → Stands p l last x y → Got p 2 (pos (cond l.a 1 0)) (pos (cond l.b 1 0)) x y
got_first x y s = record { u = half x; v = half y; rest = s.rest; first = rw s.a (one_first x); second = rw s.b (one_first y) }

-- by one link more
pub got_more : {p : Passage} {w : ℕ} {a b x y : ℤ} (l : Link) → l ≡ (taken p.cell (plain p.a p.b 0)).given → Got p w a b x y → Got (sent p) (2 * w) (a +ℤ pos (cond l.a w 0)) (b +ℤ pos (cond l.b w 0)) x y
unfolding bit
got_more {p = p} {w = w} {a = a} {b = b} {x = x} {y = y} l e g =
    rw (e, given p g.u g.v g.rest) (record { u = half g.u; v = half g.v; rest = still p g.u g.v g.rest; first = one_more w a g.u x g.first; second = one_more w b g.v y g.second })

-- by the last link
pub got_last : {p : Passage} {w : ℕ} {a b x y : ℤ} (l : Link) → l ≡ (taken p.cell (plain p.a p.b 0)).given → Got p w a b x y → Within w a → Within w b → unsigned_abs x < w → unsigned_abs y < w → (a -ℤ pos (cond l.a w 0) ≡ x) × (b -ℤ pos (cond l.b w 0) ≡ y)
unfolding bit
got_last {p = p} {w = w} {a = a} {b = b} {x = x} {y = y} l e g h i m n =
    rw (e, given p g.u g.v g.rest) (signed w a g.u x h m g.first, signed w b g.v y i n g.second)

-- ---- the same in words of 64 bits
word : (z : ℤ) → unsigned_abs z < 2 ^ 63 → to_z w64 (of_z w64 z) ≡ z
word z l = to_z-of_z w64 z (fits_signed_from_abs w64 z l)

placed_most : (q : Bool) (k : ℕ) → k ≤ 48 → cond q (2 ^ k) 0 ≤ 2 ^ 48
placed_most false k l = omega arith
placed_most true k l = pow_mono l

placed_word : (q : Bool) (k : ℕ) {z : ℤ} → k ≤ 48 → z ≡ pos (cond q (2 ^ k) 0) → to_z w64 (of_z w64 z) ≡ pos (cond q (2 ^ k) 0)
placed_word q k {z = z} l e = rw e (word (pos (cond q (2 ^ k) 0)) (omega (arith, ints, placed_most q k l)))

within_most : {k : ℕ} {v : ℤ} → k ≤ 48 → Within (2 ^ k) v → unsigned_abs v < 2 ^ 48
within_most {k = k} {v = v} l h = let m : 2 ^ k ≤ 2 ^ 48 = pow_mono l in omega (arith, ints, h, m)

pub added_fits : (q : Bool) (k : ℕ) {v z : ℤ} → k ≤ 48 → Within (2 ^ k) v → z ≡ pos (cond q (2 ^ k) 0) → SFits w64 (v +ℤ to_z w64 (of_z w64 z))
added_fits q k {v = v} l h e = rw (placed_word q k l e) (fits_signed_from_abs w64 _ (omega (arith, ints, within_most l h, placed_most q k l)))

pub added : (q : Bool) (k : ℕ) {v z : ℤ} → k ≤ 48 → Within (2 ^ k) v → z ≡ pos (cond q (2 ^ k) 0) → to_z w64 (of_z w64 (v +ℤ to_z w64 (of_z w64 z))) ≡ v +ℤ pos (cond q (2 ^ k) 0)
added q k {v = v} l h e = to_z-of_z w64 _ (added_fits q k l h e) ∙ ap (λ x. v +ℤ x) (placed_word q k l e)

pub less : (q : Bool) (k : ℕ) {v z : ℤ} → k ≤ 48 → Within (2 ^ k) v → z ≡ pos (cond q (2 ^ k) 0) → to_z w64 (of_z w64 (v -ℤ to_z w64 (of_z w64 z))) ≡ v -ℤ pos (cond q (2 ^ k) 0)
less q k {v = v} l h e =
    rw (placed_word q k l e) (word (v -ℤ pos (cond q (2 ^ k) 0)) (omega (arith, ints, within_most l h, placed_most q k l)))

pub first_word : (q : Bool) {z : ℤ} → z ≡ pos (bool_byte q) → to_z w64 (of_z w64 z) ≡ pos (cond q 1 0)
first_word false e = rw e refl
first_word true e = rw e refl

pub within_first : (q : Bool) → Within 2 (pos (cond q 1 0))
within_first false = omega (arith, ints)
within_first true = omega (arith, ints)

pub pow_more : (k : ℕ) → 2 ^ (k + 1) ≡ 2 * 2 ^ k
pow_more k =
    let e : 2 ^ suc k ≡ 2 * 2 ^ k = omega (arith, pow-suc 2 k) in
    rw (← (suc-eq-add-one k)) e
