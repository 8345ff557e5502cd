-- Why |a| times 2^twos is the greatest common divisor at the end of a run.
use Rattle.std.proofs.Common.{◌≡◌, ℕ, suc, ◌*◌, ◌^◌, ◌≤◌, Bool, true, false, ℤ, pos, negsuc, ◌+ℤ◌, ◌-ℤ◌, ◌*ℤ◌, neg_ℤ, nat_abs, sym, refl, ap, ◌∙◌, arith}
use lib.IntN.{+ℤ_comm, *ℤ-zero, neg_ℤ-neg_ℤ}
use lib.Signed.{le_z}
use Rattle.std.proofs.lemmas.Int.{ints}
use Rattle.rule.specs.Kind.{sign_by, summed}
use Rattle.rule.specs.Rule.{State, start, command_by, command, obeyed, next, after}
use Rattle.rule.specs.Whole.{odd, half, fourfold, whole}
use Rattle.rule.specs.Divisor.{Divides, Greatest, divisor}
use Rattle.rule.specs.Theorems.{DivisorIsGreatest}
use Rattle.rule.proofs.Ring.{out, lin, *ℤ-unit}
use Rattle.rule.proofs.Sizes.{factor_most, left_some, right_some}
use Rattle.rule.proofs.Parity.{odd_yes, odd_no, joins}
use Rattle.rule.proofs.Fuel.{kept_after}
use Rattle.rule.proofs.Whole.{zero_yes}

-- ---- what divides two numbers divides their combinations
divides_both : (d u v i j z : ℤ) → Divides d u → Divides d v → z ≡ i *ℤ u +ℤ j *ℤ v → Divides d z
divides_both d u v i j z h k e = record { quotient = i *ℤ h.quotient +ℤ j *ℤ k.quotient; exact = e ∙ simp (h.exact, k.exact, out) }

divides_double : (d u h : ℤ) → u ≡ h +ℤ h → Divides d h → Divides d u
divides_double d u h e k = divides_both d h h (pos 1) (pos 1) u k k (omega (arith, ints))

-- d divides w·t if it divides a·t for an odd a, and z·t for z twice w
divides_half : (d t a w z : ℤ) → odd a ≡ true → z ≡ w +ℤ w → Divides d (a *ℤ t) → Divides d (z *ℤ t) → Divides d (w *ℤ t)
divides_half d t a w z o f h i = divides_both d (a *ℤ t) (z *ℤ t) w (neg_ℤ (half a)) (w *ℤ t) h i (ident (half a) a (odd_yes a o))
  where
    ident : (k a : ℤ) → a ≡ k +ℤ k +ℤ pos 1 → w *ℤ t ≡ w *ℤ (a *ℤ t) +ℤ neg_ℤ k *ℤ (z *ℤ t)
    ident k a e = simp (e, f, out) (omega (arith, lin))

-- of odd u and of v, with m half of their sum or difference
divides_joined : (d t u v m : ℤ) (r : Bool) → odd u ≡ true → m +ℤ m ≡ summed whole (sign_by r) u v → Divides d (u *ℤ t) → Divides d (v *ℤ t) → Divides d (m *ℤ t)
divides_joined d t u v m true o e h k = divides_half d t u m (u +ℤ v) o (sym e) h (divides_both d (u *ℤ t) (v *ℤ t) (pos 1) (pos 1) ((u +ℤ v) *ℤ t) h k (simp out))
divides_joined d t u v m false o e h k = divides_half d t u m (u -ℤ v) o (sym e) h (divides_both d (u *ℤ t) (v *ℤ t) (pos 1) (negsuc 0) ((u -ℤ v) *ℤ t) h k (simp out (omega (arith, ints))))

divides_other : (d u v m : ℤ) (r : Bool) → m +ℤ m ≡ summed whole (sign_by r) u v → Divides d u → Divides d m → Divides d v
divides_other d u v m true e h k = divides_both d u m (negsuc 0) (pos 2) v h k (omega (arith, ints))
divides_other d u v m false e h k = divides_both d u m (pos 1) (negsuc 1) v h k (omega (arith, ints))

-- ---- what the run keeps: the common divisors of x and y divide a·2^twos and b·2^twos, and those of a and b, times 2^twos, divide x and y
abbrev scale : ℕ → ℤ
scale t = pos (2 ^ t)

record Shares (x y : ℤ) (s : State ℤ) : Type 0 where
  down : (d : ℤ) → Divides d x → Divides d y → Divides d (s.a *ℤ scale s.twos) × Divides d (s.b *ℤ scale s.twos)
  back : (d : ℤ) → Divides d s.a → Divides d s.b → Divides (d *ℤ scale s.twos) x × Divides (d *ℤ scale s.twos) y

shares_start : (x y : ℤ) → Shares x y (start x y)
shares_start x y = record { down = λ d i j. simp *ℤ-unit (i, j); back = λ d i j. simp *ℤ-unit (i, j) }

-- a command that leaves twos, and gives a pair with the same common divisors
shares_pair : (x y : ℤ) (s t : State ℤ) → t.twos ≡ s.twos
    → ((d m : ℤ) → Divides d (s.a *ℤ m) → Divides d (s.b *ℤ m) → Divides d (t.a *ℤ m) × Divides d (t.b *ℤ m))
    → ((d : ℤ) → Divides d t.a → Divides d t.b → Divides d s.a × Divides d s.b)
    → Shares x y s → Shares x y t
shares_pair x y s t e f g h =
    record {
      down = λ d i j. rw e (let w = h.down d i j in f d (scale s.twos) w.0 w.1);
      back = λ d i j. rw e (let w = g d i j in h.back d w.0 w.1);
    }

-- a command that takes one two out of both
shares_both : (x y : ℤ) (s t : State ℤ) → t.twos ≡ suc s.twos → s.a ≡ t.a +ℤ t.a → s.b ≡ t.b +ℤ t.b → Shares x y s → Shares x y t
shares_both x y s t e p q h =
    record {
      down = λ d i j. rw (e, scale-suc) (let w = h.down d i j in (rw (moved s.a t.a p) at w.0, rw (moved s.b t.b q) at w.1));
      back = λ d i j. rw (e, scale-suc) (rw (← (moved (d +ℤ d) d refl)) (h.back (d +ℤ d) (doubled d s.a t.a p i) (doubled d s.b t.b q j)));
    }
  where
    scale-suc : scale (suc s.twos) ≡ scale s.twos +ℤ scale s.twos
    scale-suc = ap pos (omega arith)

    moved : (z h : ℤ) → z ≡ h +ℤ h → z *ℤ scale s.twos ≡ h *ℤ (scale s.twos +ℤ scale s.twos)
    moved z h e = simp (e, out)

    doubled : (d z h : ℤ) → z ≡ h +ℤ h → Divides d h → Divides (d +ℤ d) z
    doubled d z h e k = record { quotient = k.quotient; exact = e ∙ simp (k.exact, out) }

shares_by : (x y : ℤ) (s : State ℤ) (p q z : Bool) → odd s.a ≡ p → odd s.b ≡ q → Shares x y s → Shares x y (obeyed whole (command_by p q (fourfold (s.a +ℤ s.b)) z) s)
shares_by x y s false false z e f h = shares_both x y s _ refl (odd_no s.a e) (odd_no s.b f) h
shares_by x y s false true z e f h =
    shares_pair x y s _ refl
    (λ d m i j. (j, divides_half d m s.b (half s.a) s.a f (odd_no s.a e) j i))
    (λ d i j. (divides_double d s.a (half s.a) (odd_no s.a e) j, i)) h
shares_by x y s true false z e f h =
    shares_pair x y s _ refl
    (λ d m i j. (i, divides_half d m s.a (half s.b) s.b e (odd_no s.b f) i j))
    (λ d i j. (i, divides_double d s.b (half s.b) (odd_no s.b f) j)) h
shares_by x y s true true false e f h =
    let w = (joins s.a s.b _ e f refl).twice in
    shares_pair x y s _ refl (λ d m i j. (i, divides_joined d m _ _ _ _ e w i j)) (λ d i j. (i, divides_other d _ _ _ _ w i j)) h
shares_by x y s true true true e f h =
    let w = (joins s.b s.a _ f e (ap fourfold (+ℤ_comm s.b s.a))).twice in
    shares_pair x y s _ refl (λ d m i j. (j, divides_joined d m _ _ _ _ f w j i)) (λ d i j. (divides_other d _ _ _ _ w i j, i)) h

shares_next : (x y : ℤ) (s : State ℤ) → Shares x y s → Shares x y (next whole s)
unfolding next command
shares_next x y s h = shares_by x y s (odd s.a) (odd s.b) (le_z (pos 0) s.δ) refl refl h

-- ---- the end
divides_size : (e : ℤ) (t : ℕ) (z : ℤ) → Divides (e *ℤ pos t) z → Divides (pos (nat_abs e * t)) z
divides_size (pos n) t z h = h
divides_size (negsuc n) t z h = record { quotient = neg_ℤ h.quotient; exact = h.exact ∙ simp out }

size_divided : (d e : ℤ) (t : ℕ) → Divides d (e *ℤ pos t) → Divides d (pos (nat_abs e * t))
size_divided d (pos n) t h = h
size_divided d (negsuc n) t h = record { quotient = neg_ℤ h.quotient; exact = sym (neg_ℤ-neg_ℤ (pos (suc n * t))) ∙ ap neg_ℤ h.exact ∙ simp out }

-- what divides a number other than 0 is no larger
divides_most : (d : ℕ) (z : ℤ) → (z ≡ pos 0 → ⊥) → Divides (pos d) z → d ≤ nat_abs z
divides_most d z n h = factor_most (pos d) h.quotient z (sym h.exact) (right_some (pos d) h.quotient z (sym h.exact) n)

at_end : (x y : ℤ) (s : State ℤ) → (y ≡ pos 0 → ⊥) → s.b ≡ pos 0 → Shares x y s → Greatest (divisor s) x y
at_end x y s n z h =
    let w = h.back s.a (record { quotient = pos 1; exact = sym (*ℤ-unit s.a) }) (record { quotient = pos 0; exact = z ∙ sym (*ℤ-zero s.a) }) in
    let v = divides_size s.a (2 ^ s.twos) y w.1 in
    record {
      divides_x = divides_size s.a (2 ^ s.twos) x w.0;
      divides_y = v;
      greatest = λ d i j. divides_most d (pos (divisor s)) (left_some (pos (divisor s)) v.quotient y (sym v.exact) n) (size_divided (pos d) s.a (2 ^ s.twos) (h.down (pos d) i j).0);
    }

pub divisor_greatest : DivisorIsGreatest
divisor_greatest x y n m need =
    at_end x y (after whole m (start x y)) n (zero_yes _ need.over) (kept_after whole (Shares x y) (λ s h z. shares_next x y s h) m (start x y) (shares_start x y) need.before)

pub greatest_most : (g : ℕ) (x y : ℤ) → (y ≡ pos 0 → ⊥) → Greatest g x y → g ≤ nat_abs y
greatest_most g x y n h = divides_most g y n h.divides_y
