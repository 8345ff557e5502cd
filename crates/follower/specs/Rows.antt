-- The cofactor follower takes every command of the run of its pair, and stays in its relation.
use Rattle.std.specs.Prelude.{◌≡◌, ℕ, zero, suc, ◌+◌, ◌*◌, ◌^◌, ◌≤◌, Bool, true, false, not, ◌&&◌, ◌||◌, ◌⊎◌, ℤ, pos, ◌+ℤ◌, ◌-ℤ◌, ◌*ℤ◌, Some, int_le, unsigned_abs, refl}
use Rattle.std.proofs.Common.{sym, ap, ◌∙◌, subst₂, inl, inr, arith, pow-add, pow_pos}
use Rattle.std.proofs.Math.IntN.{+ℤ_comm}
use Rattle.std.proofs.lemmas.Int.{ints}
use Rattle.std.proofs.lemmas.Bool.{both_ways, or_parts, or_left, or_right, and_from}
use mathlib.Core.Bool.{xor}
use Rattle.rule.specs.Kind.{sign_by, summed}
use Rattle.rule.specs.Pairs.{order_of, start_of}
use Rattle.rule.specs.Rule.{State, command_by, command, obeyed, next, after, told}
use Rattle.rule.specs.Whole.{odd, half, fourfold, whole}
use Rattle.rule.specs.declared.command.Sign.{Sign}
use Rattle.rule.specs.declared.command.Sign.TheVariants.{Plus, Minus}
use Rattle.rule.specs.declared.command.Command.{Command}
use Rattle.rule.specs.declared.pair.AdmittedPair.{AdmittedPair}
use Rattle.rule.proofs.Ring.{out, lin}
use Rattle.rule.proofs.Parity.{odd_no, odd_double, Joins, joins, parity}
use Rattle.rule.proofs.Fuel.{after_more}
use Rattle.follower.specs.Following.{turned, table_at, Follows}
use Rattle.follower.specs.Cofactor.{CofactorRows, first_rows, swapped, combined, corrected, evened, halved_row, in_range, row_fits, rows_take, rows_turn, CofactorRowsRelated, cofactor_first, cofactor_turns}
use Rattle.follower.specs.FollowingLemmas.{half_scaled, table_more, begun_table_at}

-- ---- the values of the rows
pub record Values (u z : ℤ) (r : CofactorRows) : Type 0 where
  pub first : r.c *ℤ r.x +ℤ r.d *ℤ r.y ≡ u
  pub second : r.e *ℤ r.x +ℤ r.f *ℤ r.y ≡ z

-- to add y to e and take x from f changes no value
values_corrected : (u z : ℤ) (r : CofactorRows) (o : Bool) → Values u z r → Values u z (corrected o r)
values_corrected u z r false h = record { first = h.first; second = h.second }
values_corrected u z r true h = record { first = h.first; second = ident r.e r.f r.x r.y ∙ h.second }
  where
    ident : (e f x y : ℤ) → (e +ℤ y) *ℤ x +ℤ (f -ℤ x) *ℤ y ≡ e *ℤ x +ℤ f *ℤ y
    ident e f x y = simp out (omega (arith, lin))

-- half of the second row has half its value
values_halved : (u z w : ℤ) (r : CofactorRows) → Values u z r → odd r.e ≡ false → odd r.f ≡ false → z ≡ w +ℤ w → Values u w (halved_row r)
values_halved u z w r h p q e =
    record { first = h.first; second = ident r.e r.f (half r.e) (half r.f) r.x r.y (odd_no r.e p) (odd_no r.f q) (h.second ∙ e) }
  where
    ident : (e f i j x y : ℤ) → e ≡ i +ℤ i → f ≡ j +ℤ j → e *ℤ x +ℤ f *ℤ y ≡ w +ℤ w → i *ℤ x +ℤ j *ℤ y ≡ w
    ident e f i j x y p q r = omega (arith, lin, simp (p, q, out) at r)

values_swapped : (u z : ℤ) (r : CofactorRows) → Values u z r → Values z u (swapped true r)
values_swapped u z r h = grind arith

values_combined : (u v : ℤ) (r : CofactorRows) (g : Sign) → Values u v r → Values u (summed whole g u v) (combined g r)
values_combined u v r g h = record { first = h.first; second = ident g r.c r.d r.e r.f r.x r.y h.first h.second }
  where
    ident : (g : Sign) (c d e f x y : ℤ) → c *ℤ x +ℤ d *ℤ y ≡ u → e *ℤ x +ℤ f *ℤ y ≡ v → summed whole g c e *ℤ x +ℤ summed whole g d f *ℤ y ≡ summed whole g u v
    ident Plus c d e f x y p q = simp out (omega (arith, lin))
    ident Minus c d e f x y p q = simp out (omega (arith, lin))

-- ---- the second row can be made even: a and b its entries, p and q the pair
evens : (a b p q : Bool) → xor (a && p) (b && q) ≡ false → (p || q) ≡ true → (a || b) ≡ true → (xor a q ≡ false) × (xor b p ≡ false)
unfolding xor
evens a b p q h k l = grind arith

value_even : (r : CofactorRows) (z : ℤ) → r.e *ℤ r.x +ℤ r.f *ℤ r.y ≡ z → odd z ≡ false → xor (odd r.e && odd r.x) (odd r.f && odd r.y) ≡ false
value_even r z e f = simp parity at (ap odd e ∙ f)

corrected_even : (r : CofactorRows) (o : Bool) → (odd r.e || odd r.f) ≡ o → xor (odd r.e && odd r.x) (odd r.f && odd r.y) ≡ false → (odd r.x || odd r.y) ≡ true
    → (odd (corrected o r).e ≡ false) × (odd (corrected o r).f ≡ false)
corrected_even r false e h k = or_parts (odd r.e) (odd r.f) e
corrected_even r true e h k = simp parity (evens (odd r.e) (odd r.f) (odd r.x) (odd r.y) h k e)

corrected_size : (E F : ℕ) (r : CofactorRows) (o : Bool) → unsigned_abs r.e ≤ E → unsigned_abs r.f ≤ F → (unsigned_abs (corrected o r).e ≤ E + unsigned_abs r.y) × (unsigned_abs (corrected o r).f ≤ F + unsigned_abs r.x)
corrected_size E F r o i j = grind arith

half_size : (z : ℤ) (H : ℕ) → odd z ≡ false → unsigned_abs z ≤ H → 2 * unsigned_abs (half z) ≤ H
half_size z H e h = omega (arith, ints, odd_no z e)

-- ---- what halving does to rows whose second has an even value
record Halving (E F : ℕ) (u w : ℤ) (r : CofactorRows) : Type 0 where
  even_e : odd (evened r).e ≡ false
  even_f : odd (evened r).f ≡ false
  values : Values u w (halved_row (evened r))
  size_e : 2 * unsigned_abs (half (evened r).e) ≤ E + unsigned_abs r.y
  size_f : 2 * unsigned_abs (half (evened r).f) ≤ F + unsigned_abs r.x

halving : (E F : ℕ) (u z w : ℤ) (r : CofactorRows) → Values u z r → z ≡ w +ℤ w → (odd r.x || odd r.y) ≡ true → unsigned_abs r.e ≤ E → unsigned_abs r.f ≤ F → Halving E F u w r
halving E F u z w r h e o k l =
    let v = corrected_even r (odd r.e || odd r.f) refl (value_even r z h.second (odd_double z w e)) o in
    let g = corrected_size E F r (odd r.e || odd r.f) k l in
    record {
      even_e = v.0;
      even_f = v.1;
      values = values_halved u z w (evened r) (values_corrected u z r (odd r.e || odd r.f) h) v.0 v.1 e;
      size_e = half_size _ _ v.0 g.0;
      size_f = half_size _ _ v.1 g.1;
    }

summed_size : (g : Sign) (x y : ℤ) (H : ℕ) → 2 * unsigned_abs x ≤ H → 2 * unsigned_abs y ≤ H → unsigned_abs (summed whole g x y) ≤ H
summed_size g x y H h k = grind arith

-- plus or minus of rows whose values are odd
joining : (E F : ℕ) (u v w : ℤ) (r : CofactorRows) (q : Bool) → Joins u v w q → Values u v r → (odd r.x || odd r.y) ≡ true
    → 2 * unsigned_abs r.c ≤ E → 2 * unsigned_abs r.d ≤ F → 2 * unsigned_abs r.e ≤ E → 2 * unsigned_abs r.f ≤ F
    → Halving E F u w (combined (sign_by q) r)
joining E F u v w r q j h o kc kd ke kf =
    halving E F u (summed whole (sign_by q) u v) w (combined (sign_by q) r) (values_combined u v r (sign_by q) h) (sym j.twice) o
    (summed_size (sign_by q) r.c r.e _ kc ke) (summed_size (sign_by q) r.d r.f _ kd kf)

in_range_lem : (n : ℕ) (z : ℤ) → unsigned_abs z ≤ 2 * 2 ^ n → in_range n z ≡ true
in_range_lem n z h = grind (arith, pow-add, pow_pos)

row_fits_lem : (E F : ℕ) (u w : ℤ) (r : CofactorRows) → unsigned_abs r.x ≤ 2 ^ r.n → unsigned_abs r.y ≤ 2 ^ r.n → E ≤ 3 * 2 ^ r.n → F ≤ 3 * 2 ^ r.n → Halving E F u w r → row_fits (evened r) ≡ true
row_fits_lem E F u w r i j k l h = grind (arith, in_range_lem)

-- ---- what the follower keeps
-- before any command but B: the rows are 1, 0 and 0, 1, and the pair is where the rule stands
pub record Fresh (s : State ℤ) (r : CofactorRows) : Type 0 where
  pub is_x : r.x ≡ s.a
  pub is_y : r.y ≡ s.b
  pub is_c : r.c ≡ pos 1
  pub is_d : r.d ≡ pos 0
  pub is_e : r.e ≡ pos 0
  pub is_f : r.f ≡ pos 1

abbrev pub Phase : State ℤ → CofactorRows → Type 0
Phase s r = ((odd s.a ≡ true) × ((odd r.x || odd r.y) ≡ true)) ⊎ Fresh s r

-- the pair without its twos, which no command but B changes
pub record Ground (p : AdmittedPair) (twos n : ℕ) (x y : ℤ) : Type 0 where
  pub order : n ≡ order_of p
  pub of_a : x *ℤ pos (2 ^ twos) ≡ p.a
  pub of_b : y *ℤ pos (2 ^ twos) ≡ p.b
  pub some_y : 1 ≤ unsigned_abs y
  pub size_x : unsigned_abs x ≤ 2 ^ n
  pub size_y : unsigned_abs y ≤ 2 ^ n

-- c and e are held by y, d and f by 2^n; a little tighter while b is odd
pub record Kept (p : AdmittedPair) (s : State ℤ) (r : CofactorRows) : Type 0 where
  pub ground : Ground p s.twos r.n r.x r.y
  pub values : Values s.a s.b r
  pub size_c : 2 * unsigned_abs r.c ≤ 3 * unsigned_abs r.y
  pub size_d : 2 * unsigned_abs r.d ≤ 3 * 2 ^ r.n
  pub size_e : unsigned_abs r.e ≤ 2 * unsigned_abs r.y
  pub size_f : unsigned_abs r.f ≤ 2 * 2 ^ r.n
  pub tight : odd s.b ≡ true → (2 * unsigned_abs r.e ≤ 3 * unsigned_abs r.y) × (2 * unsigned_abs r.f ≤ 3 * 2 ^ r.n)
  pub phase : Phase s r

-- while any command but B comes, x or y is odd
some_odd : (s : State ℤ) (r : CofactorRows) → (odd s.a || odd s.b) ≡ true → Phase s r → (odd r.x || odd r.y) ≡ true
some_odd s r o h = grind arith

fresh : (s : State ℤ) (r : CofactorRows) → odd s.a ≡ false → Phase s r → Fresh s r
fresh s r e h = grind arith

row_one : (c d x y u : ℤ) → c ≡ pos 1 → d ≡ pos 0 → x ≡ u → c *ℤ x +ℤ d *ℤ y ≡ u
row_one c d x y u p q r = grind arith

row_two : (e f x y v : ℤ) → e ≡ pos 0 → f ≡ pos 1 → y ≡ v → e *ℤ x +ℤ f *ℤ y ≡ v
row_two e f x y v p q r = grind arith

abbrev Goes : AdmittedPair → Command → State ℤ → CofactorRows → Type 0
Goes p k s r = (rows_take r k ≡ true) × Kept p (obeyed whole k s) (rows_turn r k)

-- rows that are made ready for halving the second, and what is kept once it is halved
settles : (p : AdmittedPair) (t : State ℤ) (r : CofactorRows) (E F : ℕ) → Ground p t.twos r.n r.x r.y → Halving E F t.a t.b r → E ≤ 3 * unsigned_abs r.y → F ≤ 3 * 2 ^ r.n
    → 2 * unsigned_abs r.c ≤ 3 * unsigned_abs r.y → 2 * unsigned_abs r.d ≤ 3 * 2 ^ r.n
    → (odd t.b ≡ true → (E ≤ 2 * unsigned_abs r.y) × (F ≤ 2 * 2 ^ r.n))
    → odd t.a ≡ true → (odd r.x || odd r.y) ≡ true
    → (row_fits (evened r) ≡ true) × Kept p t (halved_row (evened r))
settles p t r E F g w le lf c d tight a o = (
  row_fits_lem E F _ _ r g.size_x g.size_y (omega arith) lf w,
  record {
    ground = g;
    values = w.values;
    size_c = c;
    size_d = d;
    size_e = omega arith;
    size_f = omega arith;
    tight = λ k. let l = tight k in (omega arith, omega arith);
    phase = inl (a, o);
  },
)

goes_by : (p : AdmittedPair) (s : State ℤ) (r : CofactorRows) (i j q z : Bool) → odd s.a ≡ i → odd s.b ≡ j → fourfold (s.a +ℤ s.b) ≡ q → Kept p s r → Goes p (command_by i j q z) s r
goes_by p s r false false q z a b g h =
    let w = fresh s r a h.phase in
    let even-x = odd_no r.x (ap odd w.is_x ∙ a) in
    let even-y = odd_no r.y (ap odd w.is_y ∙ b) in
    let i : half r.x ≡ half s.a = ap half w.is_x in
    let j : half r.y ≡ half s.b = ap half w.is_y in
    let some_y : 1 ≤ unsigned_abs (half r.y) = omega (arith, ints) in
    let one : unsigned_abs r.c ≡ 1 = ap unsigned_abs w.is_c in
    let none : unsigned_abs r.e ≡ 0 = ap unsigned_abs w.is_e in (
      and_from _ _ (ap (λ x. not (odd x)) w.is_x ∙ ap not a) (ap (λ x. not (odd x)) w.is_y ∙ ap not b),
      record {
        ground =
            record {
              order = h.ground.order;
              of_a = half_scaled r.x (half r.x) s.twos p.a even-x h.ground.of_a;
              of_b = half_scaled r.y (half r.y) s.twos p.b even-y h.ground.of_b;
              some_y = some_y;
              size_x = omega (arith, ints);
              size_y = omega (arith, ints);
            };
        values = record { first = row_one _ _ _ _ _ w.is_c w.is_d i; second = row_two _ _ _ _ _ w.is_e w.is_f j };
        size_c = omega arith;
        size_d = h.size_d;
        size_e = omega arith;
        size_f = h.size_f;
        tight = λ _. (omega arith, let k = pow_pos r.n in rw w.is_f (omega arith));
        phase = inr (record { is_x = i; is_y = j; is_c = w.is_c; is_d = w.is_d; is_e = w.is_e; is_f = w.is_f });
      },
    )
goes_by p s r false true q z a b g h =
    let o = some_odd s r (or_right _ _ b) h.phase in
    let i = h.tight b in
    let w = halving (2 * unsigned_abs r.y) (2 * 2 ^ r.n) s.b s.a (half s.a) (swapped true r) (values_swapped _ _ r h.values) (odd_no s.a a) o (omega arith) (omega arith) in
    settles p _ (swapped true r) _ _ h.ground w (omega arith) (omega arith) i.0 i.1 (λ _. (omega arith, omega arith)) b o
goes_by p s r true false q z a b g h =
    let o = some_odd s r (or_left _ _ a) h.phase in
    let w = halving (2 * unsigned_abs r.y) (2 * 2 ^ r.n) s.a s.b (half s.b) r h.values (odd_no s.b b) o h.size_e h.size_f in
    settles p _ r _ _ h.ground w (omega arith) (omega arith) h.size_c h.size_d (λ _. (omega arith, omega arith)) a o
goes_by p s r true true q false a b g h =
    let o = some_odd s r (or_left _ _ a) h.phase in
    let i = h.tight b in
    let j = joins s.a s.b q a b g in
    let w = joining (3 * unsigned_abs r.y) (3 * 2 ^ r.n) s.a s.b _ r q j h.values o h.size_c h.size_d i.0 i.1 in
    settles p _ (combined (sign_by q) r) _ _ h.ground w (omega arith) (omega arith) h.size_c h.size_d (λ k. absurd (both_ways _ j.even k)) a o
goes_by p s r true true q true a b g h =
    let o = some_odd s r (or_left _ _ a) h.phase in
    let i = h.tight b in
    let j = joins s.b s.a q b a (ap fourfold (+ℤ_comm s.b s.a) ∙ g) in
    let w = joining (3 * unsigned_abs r.y) (3 * 2 ^ r.n) s.b s.a _ (swapped true r) q j (values_swapped _ _ r h.values) o i.0 i.1 h.size_c h.size_d in
    settles p _ (combined (sign_by q) (swapped true r)) _ _ h.ground w (omega arith) (omega arith) i.0 i.1 (λ k. absurd (both_ways _ j.even k)) b o

goes : (p : AdmittedPair) (s : State ℤ) (r : CofactorRows) → Kept p s r → Goes p (command whole s) s r
unfolding command
goes p s r h = goes_by p s r (odd s.a) (odd s.b) (fourfold (s.a +ℤ s.b)) (int_le (pos 0) s.δ) refl refl refl h

kept_start : (p : AdmittedPair) → Kept p (start_of p) (first_rows p)
kept_start p = grind arith

-- the rows after k commands of the run
abbrev pub rows_at : AdmittedPair → ℕ → CofactorRows
rows_at = table_at first_rows rows_turn

pub kept_at : (p : AdmittedPair) (k : ℕ) → Kept p (after whole k (start_of p)) (rows_at p k)
unfolding after told turned next
kept_at p zero = kept_start p
kept_at p (suc k) = subst₂ (Kept p) (sym (after_more whole k (start_of p))) (sym (table_more first_rows rows_turn p k)) (goes p (after whole k (start_of p)) (rows_at p k) (kept_at p k)).1

-- ---- the follower, whose table is its rows once it is begun
pub cofactor_table_lem : (p : AdmittedPair) (k : ℕ) → table_at cofactor_first cofactor_turns p k ≡ Some (rows_at p k)
cofactor_table_lem p k = begun_table_at first_rows rows_turn p k

pub rows_follow : Follows first_rows rows_take rows_turn CofactorRowsRelated
rows_follow p k run =
    let h = kept_at p k in
    record {
      related = record { first = h.values.first; second = h.values.second; of_a = h.ground.of_a; of_b = h.ground.of_b };
      takes = λ _. (goes p (after whole k (start_of p)) (rows_at p k) h).0;
    }
