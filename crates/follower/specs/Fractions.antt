-- Why the fraction follower stays in its relation, and why its first column ends as the fraction in lowest terms.
use Rattle.std.specs.Prelude.{◌≡◌, ℕ, zero, suc, ◌*◌, ◌^◌, ◌<◌, ◌≤◌, Bool, true, false, ℤ, pos, negsuc, ◌+ℤ◌, ◌-ℤ◌, ◌*ℤ◌, neg_ℤ, ◌<ℤ◌, ◌≢◌, unsigned_abs, refl}
use Rattle.std.proofs.Common.{sym, ap, ◌∙◌, subst, subst₂, arith, mod-lt}
use Rattle.std.proofs.Math.IntN.{+ℤ_comm, neg_ℤ-neg_ℤ}
use Rattle.std.proofs.lemmas.Int.{ints, unsigned_abs-mul}
use Rattle.rule.specs.Kind.{sign_by, summed}
use Rattle.rule.specs.Divisor.{Divides, Greatest, divisor}
use Rattle.rule.specs.Pairs.{order_of, start_of}
use Rattle.rule.specs.Rule.{State, command_by, command, obeyed, next, after, told}
use Rattle.rule.specs.Whole.{odd, half, fourfold, whole, Below}
use Rattle.rule.specs.declared.pair.AdmittedPair.{AdmittedPair}
use Rattle.rule.proofs.Ring.{out, lin, *ℤ-unit, *ℤ-neg}
use Rattle.rule.proofs.Sizes.{factor_most, left_some, right_some, pow_some}
use Rattle.rule.proofs.Parity.{odd_no, joins}
use Rattle.rule.proofs.Fuel.{after_more}
use Rattle.rule.proofs.Whole.{zero_yes}
use Rattle.rule.proofs.Divisor.{divisor_greatest}
use Rattle.follower.specs.Following.{turned, table_at, Follows}
use Rattle.follower.specs.Signs.{is_negative, negated_by}
use Rattle.follower.specs.Negated.{negated_size}
use Rattle.follower.specs.Fraction.{modulus, sum_in, columns_exchanged, column_doubled, columns_combined, row_after, FractionRows, Kept, first_table, rows_after, Same, RowRelated, FractionRowsRelated, read_signed, numerator_of, denominator_of, Reduced, ReadsReduced, TableReduced, FractionIsReduced}
use Rattle.follower.specs.declared.row.Row.{Row}
use Rattle.follower.specs.FollowingLemmas.{half_scaled, table_more, begun_table_at}
use Rattle.follower.specs.Modulo.{same_refl, same_add, same-mul, sum_same, difference_same, modulus_many, read_is}

-- ---- a row beside an exact one, whose entries i and j are not reduced: i·a + j·b is z over ℤ
record Exactly (w : ℕ) (r : Row ℕ) (a b z : ℤ) : Type 0 where
  i : ℤ
  j : ℤ
  value : i *ℤ a +ℤ j *ℤ b ≡ z
  left : Same (pos w) (pos r.left) i
  right : Same (pos w) (pos r.right) j
  kept : Kept w r

exactly_exchanged : (w : ℕ) (r : Row ℕ) (a b z : ℤ) → Exactly w r a b z → Exactly w (columns_exchanged true r) b a z
exactly_exchanged w r a b z h = grind arith

-- b is twice k
exactly_doubled : (w : ℕ) (r : Row ℕ) (a b z k : ℤ) → b ≡ k +ℤ k → Exactly w r a b z → Exactly w (column_doubled w r) a k z
exactly_doubled w r a b z k e h =
    record {
      i = h.i;
      j = h.j +ℤ h.j;
      value = ident h.i h.j ∙ h.value;
      left = h.left;
      right = sum_same h.right h.right;
      kept = (h.kept.0, mod-lt _ (omega arith));
    }
  where
    ident : (i j : ℤ) → i *ℤ a +ℤ (j +ℤ j) *ℤ k ≡ i *ℤ a +ℤ j *ℤ b
    ident i j = simp (e, out) (omega (arith, lin))

-- m is half of a + b or of a - b
exactly_combined : (w : ℕ) (r : Row ℕ) (a b z m : ℤ) (q : Bool) → m +ℤ m ≡ summed whole (sign_by q) a b → Exactly w r a b z → Exactly w (columns_combined w (sign_by q) r) a m z
exactly_combined w r a b z m true e h =
    let p : 0 < w = omega arith in
    record {
      i = h.i -ℤ h.j;
      j = h.j +ℤ h.j;
      value = ident h.i h.j ∙ h.value;
      left = difference_same (omega arith) h.left h.right;
      right = sum_same h.right h.right;
      kept = (mod-lt _ p, mod-lt _ p);
    }
  where
    ident : (i j : ℤ) → (i -ℤ j) *ℤ a +ℤ (j +ℤ j) *ℤ m ≡ i *ℤ a +ℤ j *ℤ b
    ident i j = let f : b ≡ m +ℤ m -ℤ a = omega (arith, ints) in simp (f, out) (omega (arith, lin))
exactly_combined w r a b z m false e h =
    let p : 0 < w = omega arith in
    let l : sum_in w r.right r.right < w = mod-lt _ p in
    record {
      i = h.i +ℤ h.j;
      j = pos 0 -ℤ (h.j +ℤ h.j);
      value = ident h.i h.j ∙ h.value;
      left = sum_same h.left h.right;
      right = difference_same (omega arith) (same_refl (pos w) (pos 0)) (sum_same h.right h.right);
      kept = (mod-lt _ p, mod-lt _ p);
    }
  where
    ident : (i j : ℤ) → (i +ℤ j) *ℤ a +ℤ (pos 0 -ℤ (j +ℤ j)) *ℤ m ≡ i *ℤ a +ℤ j *ℤ b
    ident i j =
        let f : b ≡ a -ℤ (m +ℤ m) = omega (arith, ints) in
        let g : pos 0 -ℤ (j +ℤ j) ≡ neg_ℤ (j +ℤ j) = omega (arith, ints) in
        simp (f, out) (omega (arith, lin))

-- ---- along the run
record Tracks (w : ℕ) (r : Row ℕ) (s : State ℤ) (z : ℤ) : Type 0 where
  bare : ℤ
  whole : bare *ℤ pos (2 ^ s.twos) ≡ z
  exactly : Exactly w r s.a s.b bare

tracks_both : (w : ℕ) (r : Row ℕ) (s : State ℤ) (z : ℤ) → odd s.a ≡ false → odd s.b ≡ false → Tracks w r s z → Tracks w r (obeyed whole (command_by false false true true) s) z
tracks_both w r s z e f h = by h.bare h.whole h.exactly
  where
    ident : (i j a b u v y : ℤ) → a ≡ u +ℤ u → b ≡ v +ℤ v → i *ℤ a +ℤ j *ℤ b ≡ y → y ≡ (i *ℤ u +ℤ j *ℤ v) +ℤ (i *ℤ u +ℤ j *ℤ v)
    ident i j a b u v y e f g = sym g ∙ simp (e, f, out) (omega (arith, lin))

    by : (y : ℤ) → y *ℤ pos (2 ^ s.twos) ≡ z → Exactly w r s.a s.b y → Tracks w r (obeyed whole (command_by false false true true) s) z
    by y g x =
        let k = ident x.i x.j s.a s.b (half s.a) (half s.b) y (odd_no s.a e) (odd_no s.b f) x.value in
        record {
          bare = x.i *ℤ half s.a +ℤ x.j *ℤ half s.b;
          whole = half_scaled y _ s.twos z k g;
          exactly = record { i = x.i; j = x.j; value = refl; left = x.left; right = x.right; kept = x.kept };
        }

tracks_by : (w : ℕ) (r : Row ℕ) (s : State ℤ) (z : ℤ) (p q o x : Bool) → odd s.a ≡ p → odd s.b ≡ q → fourfold (s.a +ℤ s.b) ≡ o → Tracks w r s z
    → Tracks w (row_after w (command_by p q o x) r) (obeyed whole (command_by p q o x) s) z
tracks_by w r s z false false o x e f g h = tracks_both w r s z e f h
tracks_by w r s z false true o x e f g h =
    record { bare = h.bare; whole = h.whole; exactly = exactly_doubled w _ _ _ _ _ (odd_no s.a e) (exactly_exchanged w r _ _ _ h.exactly) }
tracks_by w r s z true false o x e f g h =
    record { bare = h.bare; whole = h.whole; exactly = exactly_doubled w r _ _ _ _ (odd_no s.b f) h.exactly }
tracks_by w r s z true true o false e f g h =
    record { bare = h.bare; whole = h.whole; exactly = exactly_combined w r _ _ _ _ o (joins s.a s.b o e f g).twice h.exactly }
tracks_by w r s z true true o true e f g h =
    let k = (joins s.b s.a o f e (ap fourfold (+ℤ_comm s.b s.a) ∙ g)).twice in
    record { bare = h.bare; whole = h.whole; exactly = exactly_combined w _ _ _ _ _ o k (exactly_exchanged w r _ _ _ h.exactly) }

tracks_next : (w : ℕ) (r : Row ℕ) (s : State ℤ) (z : ℤ) → Tracks w r s z → Tracks w (row_after w (command whole s) r) (next whole s) z
unfolding next command
tracks_next w r s z h = grind (arith, tracks_by)

-- ---- the table
record RowsTrack (p : AdmittedPair) (t : FractionRows) (s : State ℤ) : Type 0 where
  order : t.order ≡ order_of p
  first : Tracks (modulus t.order) t.first s p.a
  second : Tracks (modulus t.order) t.second s p.b

track_start : (p : AdmittedPair) → RowsTrack p (first_table p) (start_of p)
track_start p =
    let w = modulus (order_of p) in
    let l = modulus_many (order_of p) in
    let one = same_refl (pos w) (pos 1) in
    let none = same_refl (pos w) (pos 0) in
    record {
      order = refl;
      first = record { bare = p.a; whole = *ℤ-unit p.a; exactly = record { i = pos 1; j = pos 0; value = omega (arith, ints); left = one; right = none; kept = (l.1, l.0) } };
      second = record { bare = p.b; whole = *ℤ-unit p.b; exactly = record { i = pos 0; j = pos 1; value = omega (arith, ints); left = none; right = one; kept = (l.0, l.1) } };
    }

track_next : (p : AdmittedPair) (t : FractionRows) (s : State ℤ) → RowsTrack p t s → RowsTrack p (rows_after (command whole s) t) (next whole s)
track_next p t s h = grind (arith, tracks_next)

-- the table after k commands of the run
abbrev fractions_at : AdmittedPair → ℕ → FractionRows
fractions_at = table_at first_table (λ t c. rows_after c t)

track : (p : AdmittedPair) (k : ℕ) → RowsTrack p (fractions_at p k) (after whole k (start_of p))
unfolding after told turned
track p zero = track_start p
track p (suc k) = rw (table_more first_table (λ t c. rows_after c t) p k, after_more whole k (start_of p)) (track_next p (fractions_at p k) (after whole k (start_of p)) (track p k))

-- ---- the law
tracks_related : (w : ℕ) (r : Row ℕ) (s : State ℤ) (z : ℤ) → Tracks w r s z → RowRelated w r s z
tracks_related w r s z h =
    let x = h.exactly in
    record { bare = h.bare; whole = h.whole; same = subst (Same (pos w) (pos r.left *ℤ s.a +ℤ pos r.right *ℤ s.b)) x.value (same_add (same-mul s.a x.left) (same-mul s.b x.right)) }

track_related : (p : AdmittedPair) (t : FractionRows) (s : State ℤ) → RowsTrack p t s → FractionRowsRelated p t s
track_related p t s h = grind (arith, tracks_related)

pub tables_follow : Follows first_table (λ t c. true) (λ t c. rows_after c t) FractionRowsRelated
tables_follow p k _ = record { related = track_related p _ _ (track p k); takes = λ _. refl }

-- ---- the end, where b is 0
-- of a row whose number is z: it reads as the exact entry i, and i·a·2^twos is z
record Ended (n : ℕ) (r : Row ℕ) (s : State ℤ) (z : ℤ) : Type 0 where
  i : ℤ
  reads : read_signed n r.left ≡ i
  small : unsigned_abs i < 2 ^ n
  whole : s.a *ℤ pos (2 ^ s.twos) *ℤ i ≡ z

dropped : (i j a b y : ℤ) → b ≡ pos 0 → i *ℤ a +ℤ j *ℤ b ≡ y → i *ℤ a ≡ y
dropped i j a b y e g = grind arith

-- a is not 0 at the end of a run that had a b other than 0
ended_some : (w : ℕ) (r : Row ℕ) (s : State ℤ) (z : ℤ) → (z ≢ pos 0) → s.b ≡ pos 0 → Tracks w r s z → s.a ≢ pos 0
ended_some w r s z some b h = grind arith

ended : (n : ℕ) (r : Row ℕ) (s : State ℤ) (z : ℤ) → unsigned_abs z < 2 ^ n → (s.a ≢ pos 0) → s.b ≡ pos 0 → Tracks (modulus n) r s z → Ended n r s z
ended n r s z l some b h =
    let x = h.exactly in
    let e = dropped x.i x.j s.a s.b h.bare b x.value in
    let u = factor_most x.i s.a h.bare e some in
    let v = factor_most h.bare (pos (2 ^ s.twos)) z h.whole (pow_some s.twos) in
    let small : unsigned_abs x.i < 2 ^ n = omega arith in
    record { i = x.i; reads = read_is n r.left x.i x.kept.0 small x.left; small = small; whole = scaled x.i s.a (pos (2 ^ s.twos)) h.bare z e h.whole }
  where
    scaled : (i a t y z : ℤ) → i *ℤ a ≡ y → y *ℤ t ≡ z → a *ℤ t *ℤ i ≡ z
    scaled i a t y z e f = simp out (simp (← e, out) at f)

-- ---- lowest terms: i and j with g·i = x and g·j = y, where |g| is the greatest common divisor of x and y
crossed : (g i j x y : ℤ) → g *ℤ i ≡ x → g *ℤ j ≡ y → i *ℤ y ≡ j *ℤ x
crossed g i j x y e f = simp (← e, ← f, out)

divides_scaled : (g i x : ℤ) (d : ℕ) → g *ℤ i ≡ x → Divides (pos d) i → Divides (pos (unsigned_abs g * d)) x
divides_scaled (pos g) i x d e h = record { quotient = h.quotient; exact = ident (pos g) i x (pos d) h.quotient e h.exact }
  where
    ident : (g i x d q : ℤ) → g *ℤ i ≡ x → i ≡ d *ℤ q → x ≡ g *ℤ d *ℤ q
    ident g i x d q e f = sym e ∙ simp (f, out)
divides_scaled (negsuc g) i x d e h = record { quotient = neg_ℤ h.quotient; exact = ident (pos (suc g)) i x (pos d) h.quotient e h.exact }
  where
    ident : (g i x d q : ℤ) → neg_ℤ g *ℤ i ≡ x → i ≡ d *ℤ q → x ≡ g *ℤ d *ℤ neg_ℤ q
    ident g i x d q e f = sym e ∙ simp (f, out)

-- g·d is no larger than g, and d divides j, which is not 0
only_one : (g d : ℕ) (j : ℤ) → 0 < g → g * d ≤ g → (j ≢ pos 0) → Divides (pos d) j → d ≡ 1
only_one g d j l m some h = grind arith

-- ---- both negated or neither
negated_crossed : (b : Bool) (i j x y : ℤ) → i *ℤ y ≡ j *ℤ x → negated_by b i *ℤ y ≡ negated_by b j *ℤ x
negated_crossed b i j x y e = grind arith

negated_divides : (b : Bool) (d i : ℤ) → Divides d (negated_by b i) → Divides d i
negated_divides false d i h = h
negated_divides true d i h = record { quotient = neg_ℤ h.quotient; exact = sym (neg_ℤ-neg_ℤ i) ∙ ap neg_ℤ h.exact ∙ sym (*ℤ-neg d h.quotient) }

negated_above : (b : Bool) (j : ℤ) → is_negative j ≡ b → (j ≢ pos 0) → pos 0 <ℤ negated_by b j
negated_above b j e some = grind arith

-- ---- the read-out
lowest : (x y i j : ℤ) (s : State ℤ) (b : Bool) → is_negative j ≡ b → (y ≢ pos 0) → s.a *ℤ pos (2 ^ s.twos) *ℤ i ≡ x → s.a *ℤ pos (2 ^ s.twos) *ℤ j ≡ y
    → Greatest (divisor s) x y → Reduced x y (negated_by b i) (negated_by b j)
lowest x y i j s b f some e e' g =
    let k = s.a *ℤ pos (2 ^ s.twos) in
    let size : unsigned_abs k ≡ divisor s = unsigned_abs-mul s.a (pos (2 ^ s.twos)) in
    let j-some = right_some k j y e' some in
    let k-some = left_some k j y e' some in
    record {
      positive = negated_above b j f j-some;
      equal = negated_crossed b i j x y (crossed k i j x y e e');
      lowest = λ d u v.
          let u' = negated_divides b (pos d) i u in
          let v' = negated_divides b (pos d) j v in
          let m = g.greatest (unsigned_abs k * d) (divides_scaled k i x d e u') (divides_scaled k j y d e' v') in
          only_one (unsigned_abs k) d j (size_some k k-some) (omega arith) j-some v';
    }
  where
    size_some : (k : ℤ) → (k ≢ pos 0) → 0 < unsigned_abs k
    size_some (pos zero) some = absurd (some refl)
    size_some (pos (suc k)) some = omega arith
    size_some (negsuc k) some = omega arith

reads_reduced : (p : AdmittedPair) (t : FractionRows) (s : State ℤ) → s.b ≡ pos 0 → Greatest (divisor s) p.a p.b → RowsTrack p t s → ReadsReduced p t
reads_reduced p t s b g h =
    let n = order_of p in
    let first : Tracks (modulus n) t.first s p.a = rw h.order at h.first in
    let second : Tracks (modulus n) t.second s p.b = rw h.order at h.second in
    let some = ended_some (modulus n) t.second s p.b p.admitted.2 b second in
    let u = ended n t.first s p.a p.admitted.0 some b first in
    let v = ended n t.second s p.b p.admitted.1 some b second in
    by u.i v.i u.reads v.reads u.small v.small
    (lowest p.a p.b u.i v.i s (is_negative v.i) refl p.admitted.2 u.whole v.whole g)
  where
    by : (i j : ℤ) → read_signed (order_of p) t.first.left ≡ i → read_signed (order_of p) t.second.left ≡ j → unsigned_abs i < 2 ^ order_of p → unsigned_abs j < 2 ^ order_of p
        → Reduced p.a p.b (negated_by (is_negative j) i) (negated_by (is_negative j) j) → ReadsReduced p t
    by i j e f l m r =
        let nu : negated_by (is_negative j) i ≡ numerator_of t = rw (h.order, e, f) in
        let de : negated_by (is_negative j) j ≡ denominator_of t = rw (h.order, f) in
        record {
          reduced = subst₂ (Reduced p.a p.b) nu de r;
          numerator = subst (Below (order_of p)) nu (omega (arith, negated_size (is_negative j) i));
          denominator = subst (Below (order_of p)) de (omega (arith, negated_size (is_negative j) j));
        }

pub fraction_reduced : FractionIsReduced
fraction_reduced p m need =
    subst (TableReduced p) (sym (begun_table_at first_table (λ t c. rows_after c t) p m))
    (reads_reduced p (fractions_at p m) (after whole m (start_of p)) (zero_yes _ need.over) (divisor_greatest p.a p.b p.admitted.2 m need) (track p m))
