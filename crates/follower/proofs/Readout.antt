-- Why u and v are cofactors of the greatest common divisor, and small.
use Rattle.std.proofs.Common.{◌≡◌, ℕ, zero, suc, ◌+◌, ◌*◌, ◌^◌, ◌<◌, ◌≤◌, Bool, true, false, ◌||◌, ltb, ℤ, pos, ◌+ℤ◌, ◌*ℤ◌, neg_ℤ, nat_abs, sym, refl, ap, ◌∙◌, subst, subst₂, inl, inr, mul-le-mul_right, mul-one, le_of_mul-le-mul_right, arith, pow_pos, pow_mono}
use Rattle.std.proofs.lemmas.Int.{ints, unsigned_abs-mul}
use Rattle.std.proofs.lemmas.Bool.{cases_Bool, both_ways}
use Rattle.rule.specs.Divisor.{Divides, Greatest, divisor}
use Rattle.rule.specs.Pairs.{order_of, start_of}
use Rattle.rule.specs.Rule.{State, after, Need}
use Rattle.rule.specs.Whole.{odd, half, whole, Below}
use Rattle.rule.specs.declared.pair.AdmittedPair.{AdmittedPair}
use Rattle.rule.proofs.Divisor.{divisor_greatest}
use Rattle.rule.proofs.Ring.{out, lin}
use Rattle.rule.proofs.Whole.{zero_yes}
use Rattle.rule.proofs.Parity.{odd_yes, odd_no, odd_double}
use Rattle.rule.proofs.Sizes.{factor_most, left_some, right_some, pow_some}
use Rattle.follower.specs.Signs.{is_negative, negated_by}
use Rattle.follower.specs.Cofactor.{CofactorRows}
use Rattle.follower.specs.Readout.{alike, moved, u_of, v_of, Bezout, CofactorsAreRight}
use Rattle.follower.specs.Rows.{Phase, Kept, rows_at, kept_at, cofactor_table_lem}

-- ---- the sum
-- the row, with the sign of a, gives |a|
row_signed : (m : Bool) (a c d x y : ℤ) → is_negative a ≡ m → c *ℤ x +ℤ d *ℤ y ≡ a → negated_by m c *ℤ x +ℤ negated_by m d *ℤ y ≡ pos (nat_abs a)
row_signed m a c d x y e h = grind (arith, ints)

row_moved : (p o : Bool) (c d x y : ℤ) → moved p o c y *ℤ x +ℤ moved p o d (neg_ℤ x) *ℤ y ≡ c *ℤ x +ℤ d *ℤ y
row_moved false o c d x y = refl
row_moved true true c d x y = simp out (omega (arith, lin))
row_moved true false c d x y = simp out (omega (arith, lin))

-- ---- the size of u
u_small : (p : Bool) (c y : ℤ) → ltb (nat_abs y) (2 * nat_abs c) ≡ p → 2 * nat_abs c ≤ 3 * nat_abs y → 2 * nat_abs (moved p (alike (is_negative c) (is_negative y)) c y) ≤ nat_abs y
u_small p c y e h = grind arith

-- ---- the size of v, from u·x + v·y = g and the size of u
-- twice |v| times |y| is at most 2g + 2|u||x|
v_bound : (g : ℕ) (x y u v : ℤ) → u *ℤ x +ℤ v *ℤ y ≡ pos g → nat_abs v * nat_abs y ≤ g + nat_abs u * nat_abs x
v_bound g x y u v e = grind arith

-- g divides y twice or more often
v_small_far : (g X A U V : ℕ) → 1 ≤ X → 2 * g ≤ X → 2 * U ≤ X → V * X ≤ g + U * A → 2 * V ≤ A + 1
v_small_far g X A U V o f u h =
    let s = mul-le-mul_right {m = 2 * U} {n = X} A u in
    let t : 2 * V * X ≤ (A + 1) * X = omega arith in
    le_of_mul-le-mul_right {m = 2 * V} {n = A + 1} {k = X} t o

-- g is |y|, and odd
v_small_near : (X A U V : ℕ) → 1 ≤ X → X ≤ A → suc (2 * U) ≤ X → V * X ≤ X + U * A → 2 * V ≤ A + 1
v_small_near X A U V o l u h =
    let s = mul-le-mul_right {m = suc (2 * U)} {n = X} A u in
    let t : 2 * V * X ≤ (A + 1) * X = omega arith in
    le_of_mul-le-mul_right {m = 2 * V} {n = A + 1} {k = X} t o

-- ---- the divisor without its twos
cancel_scale : (z w : ℤ) (t : ℕ) → 0 < t → z *ℤ pos t ≡ w *ℤ pos t → z ≡ w
cancel_scale z w t o e = grind (arith, le_of_mul-le-mul_right)

-- what g · 2^t divides and is z · 2^t, is divided by g without the twos
divides_bare : (g t : ℕ) (z w : ℤ) → 0 < t → z *ℤ pos t ≡ w → (h : Divides (pos (g * t)) w) → z ≡ pos g *ℤ h.quotient
divides_bare g t z w o e h = cancel_scale z (pos g *ℤ h.quotient) t o (e ∙ h.exact ∙ ident (pos g) (pos t) h.quotient)
  where
    ident : (u v q : ℤ) → (u *ℤ v) *ℤ q ≡ (u *ℤ q) *ℤ v
    ident u v q = simp out

odd_factor : (g : ℕ) (x y q r : ℤ) → x ≡ pos g *ℤ q → y ≡ pos g *ℤ r → (odd x || odd y) ≡ true → odd (pos g) ≡ true
odd_factor g x y q r e f o = elim (cases_Bool (odd (pos g))) [
  | inl t ↦ t
  | inr n ↦ absurd (both_ways _ (or_none (odd x) (odd y) (even_product x q e n) (even_product y r f n)) o)
]
  where
    even_product : (z q : ℤ) → z ≡ pos g *ℤ q → odd (pos g) ≡ false → odd z ≡ false
    even_product z q e n = odd_double z (half (pos g) *ℤ q) (e ∙ ap (λ i. i *ℤ q) (odd_no (pos g) n) ∙ simp out)

    or_none : (p q : Bool) → p ≡ false → q ≡ false → (p || q) ≡ false
    or_none p q e f = grind arith

-- the size of v, with the divisor g of x and y: y holds it once, or twice or more often
v_small : (g : ℕ) (x y q r u v : ℤ) → x ≡ pos g *ℤ q → y ≡ pos g *ℤ r → (odd x || odd y) ≡ true → 1 ≤ nat_abs x → 1 ≤ nat_abs y → 2 * nat_abs u ≤ nat_abs y → u *ℤ x +ℤ v *ℤ y ≡ pos g → 2 * nat_abs v ≤ nat_abs x + 1
v_small g x y q r u v e f o some_x some_y h s = by (nat_abs r) refl
  where
    size_x : nat_abs x ≡ g * nat_abs q
    size_x = ap nat_abs e ∙ unsigned_abs-mul (pos g) q

    size_y : nat_abs y ≡ g * nat_abs r
    size_y = ap nat_abs f ∙ unsigned_abs-mul (pos g) r

    by : (k : ℕ) → nat_abs r ≡ k → 2 * nat_abs v ≤ nat_abs x + 1
    by zero n = absurd (let z : nat_abs y ≡ g * 0 = size_y ∙ ap (λ (i : ℕ). g * i) n in omega arith)
    by (suc zero) n =
        let z : nat_abs y ≡ g = size_y ∙ ap (λ (i : ℕ). g * i) n ∙ mul-one g in
        let w = odd_yes (pos g) (odd_factor g x y q r e f o) in
        let m : nat_abs y ≤ nat_abs x = held (nat_abs q) refl z in
        v_small_near (nat_abs y) (nat_abs x) (nat_abs u) (nat_abs v) some_y m (omega (arith, ints)) (subst (λ (i : ℕ). nat_abs v * nat_abs y ≤ i + nat_abs u * nat_abs x) (sym z) (v_bound g x y u v s))
      where
        held : (k : ℕ) → nat_abs q ≡ k → nat_abs y ≡ g → nat_abs y ≤ nat_abs x
        held zero n z = absurd (let w : nat_abs x ≡ g * 0 = size_x ∙ ap (λ (i : ℕ). g * i) n in omega arith)
        held (suc k) n z = let w : nat_abs x ≡ g * suc k = size_x ∙ ap (λ (i : ℕ). g * i) n in omega arith
    by (suc (suc k)) n =
        let z : nat_abs y ≡ g * suc (suc k) = size_y ∙ ap (λ (i : ℕ). g * i) n in
        v_small_far g (nat_abs y) (nat_abs x) (nat_abs u) (nat_abs v) some_y (omega arith) h (v_bound g x y u v s)

-- ---- the end of a run
not_fresh : (s : State ℤ) (r : CofactorRows) → s.b ≡ pos 0 → 1 ≤ nat_abs r.y → Phase s r → (odd r.x || odd r.y) ≡ true
not_fresh s r z o h = grind arith

scaled_sum : (u v x y t a : ℤ) → u *ℤ x +ℤ v *ℤ y ≡ a → u *ℤ (x *ℤ t) +ℤ v *ℤ (y *ℤ t) ≡ a *ℤ t
scaled_sum u v x y t a e = simp (← e, out)

-- what is known of u and v there, before the twos are put back
record Bare (p : AdmittedPair) (s : State ℤ) (r : CofactorRows) : Type 0 where
  sum : u_of s.a r *ℤ r.x +ℤ v_of s.a r *ℤ r.y ≡ pos (nat_abs s.a)
  small_u : 2 * nat_abs (u_of s.a r) ≤ nat_abs r.y

bare : (p : AdmittedPair) (s : State ℤ) (r : CofactorRows) → Kept p s r → Bare p s r
bare p s r h = grind (arith, row_signed, row_moved, u_small)

bezout_there : (p : AdmittedPair) (s : State ℤ) (r : CofactorRows) → s.b ≡ pos 0 → Kept p s r → Greatest (divisor s) p.a p.b → Bezout p.a p.b (divisor s) (u_of s.a r) (v_of s.a r)
bezout_there p s r z h g =
    let b = bare p s r h in
    let t = 2 ^ s.twos in
    let o = pow_pos s.twos in
    let size_x = factor_most r.x (pos t) p.a h.ground.of_a (pow_some s.twos) in
    let size_y = factor_most r.y (pos t) p.b h.ground.of_b (pow_some s.twos) in
    let e = divides_bare (nat_abs s.a) t r.x p.a o h.ground.of_a g.divides_x in
    let f = divides_bare (nat_abs s.a) t r.y p.b o h.ground.of_b g.divides_y in
    record {
      sum = subst₂ (λ i j. u_of s.a r *ℤ i +ℤ v_of s.a r *ℤ j ≡ pos (divisor s)) h.ground.of_a h.ground.of_b (scaled_sum (u_of s.a r) (v_of s.a r) r.x r.y (pos t) (pos (nat_abs s.a)) b.sum);
      small_u = omega arith;
      small_v = λ n. omega (arith, v_small (nat_abs s.a) r.x r.y _ _ (u_of s.a r) (v_of s.a r) e f (not_fresh s r z h.ground.some_y h.phase) (some_x n) h.ground.some_y b.small_u b.sum);
    }
  where
    some_x : (p.a ≡ pos 0 → ⊥) → 1 ≤ nat_abs r.x
    some_x n = let w = left_some r.x (pos (2 ^ s.twos)) p.a h.ground.of_a n in omega (arith, ints)

-- ---- both fit the order
v_fits : (n g : ℕ) (x y u v : ℤ) → 1 ≤ n → nat_abs x < 2 ^ n → 1 ≤ nat_abs y → g ≤ nat_abs y → 2 * nat_abs u ≤ nat_abs y → u *ℤ x +ℤ v *ℤ y ≡ pos g → nat_abs v < 2 ^ n
v_fits n g x y u v o l some low h e =
    let s = mul-le-mul_right {m = 2 * nat_abs u} {n = nat_abs y} (nat_abs x) h in
    let b = v_bound g x y u v e in
    let t : 2 * nat_abs v * nat_abs y ≤ (2 + nat_abs x) * nat_abs y = omega arith in
    let k = le_of_mul-le-mul_right {m = 2 * nat_abs v} {n = 2 + nat_abs x} {k = nat_abs y} t some in
    let two : 2 ≤ 2 ^ n = pow_mono o in
    omega arith

-- twice u is at most |y|, and so both u and v are below 2^n
pub cofactors_fit : (p : AdmittedPair) (m : ℕ) → Need whole (start_of p) m → let s = after whole m (start_of p) in Below (order_of p) (u_of s.a (rows_at p m)) × Below (order_of p) (v_of s.a (rows_at p m))
cofactors_fit p m need =
    let s = after whole m (start_of p) in
    let r = rows_at p m in
    let h = kept_at p m in
    let b = bare p s r h in
    let g = nat_abs s.a in
    let size_x = factor_most r.x (pos (2 ^ s.twos)) p.a h.ground.of_a (pow_some s.twos) in
    let size_y = factor_most r.y (pos (2 ^ s.twos)) p.b h.ground.of_b (pow_some s.twos) in
    let d = (divisor_greatest p.a p.b p.admitted.2 m need).divides_y in
    let f = divides_bare g (2 ^ s.twos) r.y p.b (pow_pos s.twos) h.ground.of_b d in
    let some_y = some r.y h.ground.some_y in
    let low = factor_most (pos g) d.quotient r.y (sym f) (right_some (pos g) d.quotient r.y (sym f) some_y) in
    (omega arith, v_fits (order_of p) g r.x r.y (u_of s.a r) (v_of s.a r) p.order.admitted.0 (omega arith) h.ground.some_y low b.small_u b.sum)
  where
    some : (y : ℤ) → 1 ≤ nat_abs y → y ≡ pos 0 → ⊥
    some y l e = omega (arith, ints)

pub bezout : (p : AdmittedPair) (m : ℕ) → Need whole (start_of p) m → let s = after whole m (start_of p) in Bezout p.a p.b (divisor s) (u_of s.a (rows_at p m)) (v_of s.a (rows_at p m))
bezout p m need = bezout_there p (after whole m (start_of p)) (rows_at p m) (zero_yes _ need.over) (kept_at p m) (divisor_greatest p.a p.b p.admitted.2 m need)

pub cofactors_right : CofactorsAreRight
cofactors_right p m need = grind (arith, cofactors_fit, bezout, cofactor_table_lem)
