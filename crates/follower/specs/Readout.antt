-- What the cofactor follower gives at the end of a run, and what is right of it.
use Rattle.std.specs.Prelude.{◌≡◌, ℕ, ◌+◌, ◌*◌, ◌≤◌, Bool, true, false, not, ℤ, pos, ◌+ℤ◌, ◌-ℤ◌, ◌*ℤ◌, neg_ℤ, Some, None, Option, ◌≢◌, nat_lt, unsigned_abs}
use Rattle.follower.specs.Signs.{is_negative, negated_by}
use Rattle.rule.specs.Divisor.{divisor}
use Rattle.rule.specs.Pairs.{order_of, start_of}
use Rattle.rule.specs.Rule.{State, after, Need}
use Rattle.rule.specs.Whole.{whole, Below}
use Rattle.rule.specs.declared.pair.AdmittedPair.{AdmittedPair}
use Rattle.follower.specs.Following.{table_at}
use Rattle.follower.specs.Cofactor.{CofactorRows, cofactor_first, cofactor_turns}
use Rattle.follower.specs.declared.entries.Cofactors.{Cofactors}

-- Whether two marks are the same.
abbrev pub alike : Bool → Bool → Bool
alike true q = q
alike false q = not q

-- z less w where the first mark is set and the second is, z plus w where only the first is, and else z.
abbrev pub moved : Bool → Bool → ℤ → ℤ → ℤ
moved false o z w = z
moved true true z w = z -ℤ w
moved true false z w = z +ℤ w

-- c as it goes with the sign of a, and whether twice its size is above that of y.
abbrev pub c_of : ℤ → CofactorRows → ℤ
c_of a r = negated_by (is_negative a) r.c

abbrev pub is_far : ℤ → CofactorRows → Bool
is_far a r = nat_lt (unsigned_abs r.y) (2 * unsigned_abs (c_of a r))

-- Whether y has to be taken from c, to bring c towards zero, and not added.
abbrev pub is_less : ℤ → CofactorRows → Bool
is_less a r = alike (is_negative (c_of a r)) (is_negative r.y)

-- The cofactors: c and d with the sign of a, moved once by y and x if c is far.
abbrev pub u_of : ℤ → CofactorRows → ℤ
u_of a r = moved (is_far a r) (is_less a r) (c_of a r) r.y

abbrev pub v_of : ℤ → CofactorRows → ℤ
v_of a r = moved (is_far a r) (is_less a r) (negated_by (is_negative a) r.d) (neg_ℤ r.x)

-- u and v are cofactors of g for a and b. u is small, and so is v where a is not 0.
pub record Bezout (a b : ℤ) (g : ℕ) (u v : ℤ) : Type 0 where
  pub sum : u *ℤ a +ℤ v *ℤ b ≡ pos g
  pub small_u : 2 * unsigned_abs u ≤ unsigned_abs b
  pub small_v : (a ≢ pos 0) → 2 * unsigned_abs v ≤ unsigned_abs a + 1

-- The cofactors of a follower that has been told a run which ended with a; a follower that is not begun has none.
abbrev pub cofactors_at : ℤ → Option CofactorRows → Option Cofactors
cofactors_at a None = None
cofactors_at a (Some r) = Some (record { u = u_of a r; v = v_of a r })

-- u and v of a table for a run that ended with a are cofactors, and fit the order.
pub record ReadsCofactors (p : AdmittedPair) (s : State ℤ) (r : CofactorRows) : Type 0 where
  pub bezout : Bezout p.a p.b (divisor s) (u_of s.a r) (v_of s.a r)
  pub u : Below (order_of p) (u_of s.a r)
  pub v : Below (order_of p) (v_of s.a r)

abbrev pub TableCofactors : AdmittedPair → State ℤ → Option CofactorRows → Type 0
TableCofactors p s None = ⊥
TableCofactors p s (Some r) = ReadsCofactors p s r

-- At the end of the run of every admitted pair the table reads so.
abbrev pub CofactorsAreRight : Type 0
CofactorsAreRight = (p : AdmittedPair) (m : ℕ) → Need whole (start_of p) m → TableCofactors p (after whole m (start_of p)) (table_at cofactor_first cofactor_turns p m)
