-- Why a run of order n ends within 4n + 1 commands, for every kind of number that keeps the laws.
use Rattle.std.proofs.Common.{◌≡◌, ℕ, zero, suc, ◌+◌, ◌-◌, ◌*◌, ◌<◌, ◌≤◌, Bool, true, false, cond, ℤ, pos, ◌+ℤ◌, refl, arith}
use lib.Signed.{le_z}
use Rattle.std.proofs.lemmas.Int.{ints}
use Rattle.std.proofs.lemmas.Bool.{both_ways}
use Rattle.rule.specs.Kind.{Kind, Laws}
use Rattle.rule.specs.Rule.{State, start, command_by, command, obeyed, next, after, Running, Need}
use Rattle.rule.proofs.Fuel.{Keeps, kept_after, ends_by_count}

-- δ is α - β, and the twos taken out leave room for both below n. Until a is odd for good, α and β are level.
-- Each command uses fuel: two for each bit of size, one for an odd b.
pub record Balance (n α β : ℕ) (δ : ℤ) (twos count : ℕ) (odd_a odd_b : Bool) : Type 0 where
  pub apart : δ +ℤ pos β ≡ pos α
  pub room_a : α + twos ≤ n
  pub room_b : β + twos ≤ n
  pub phase : odd_a ≡ false → α ≡ β
  pub fuel : 2 * (α + β) + cond odd_b 1 0 + count ≤ 4 * n + 1

-- The sizes of a and b are below 2^α and 2^β.
pub record Room {K : Type 0} (k : Kind K) (Below : ℕ → K → Type 0) (n : ℕ) (s : State K) : Type 0 where
  pub α : ℕ
  pub β : ℕ
  pub below_a : Below α s.a
  pub below_b : Below β s.b
  pub balance : Balance n α β s.δ s.twos s.count (k.odd s.a) (k.odd s.b)

module _ {K : Type 0} (k : Kind K) (Below : ℕ → K → Type 0) (laws : Laws k Below) (n : ℕ) where
  room_start : (x y : K) → Below n x → Below n y → Room k Below n (start x y)
  room_start x y h i = record { α = n; β = n; below_a = h; below_b = i; balance = grind (arith, ints) }

  -- a number that is not 0 has a bit
  some_bit : (m : ℕ) (x : K) → k.is_zero x ≡ false → Below m x → 0 < m
  some_bit zero x z h = absurd (both_ways (k.is_zero x) z (laws.below_none x h))
  some_bit (suc m) x z h = omega arith

  half_less : (m : ℕ) (x : K) → k.odd x ≡ false → Below m x → Below (m - 1) (k.half x)
  half_less m x e h = laws.half_below (m - 1) x e (laws.below_more m (suc (m - 1)) x (omega arith) h)

  room_by : (s : State K) (p q x : Bool) → k.odd s.a ≡ p → k.odd s.b ≡ q → le_z (pos 0) s.δ ≡ x
      → Room k Below n s → k.is_zero s.b ≡ false → Room k Below n (obeyed k (command_by p q (k.fourfold (k.plus s.a s.b)) x) s)
  room_by s false false x a b d h z =
      let l = some_bit h.β s.b z h.below_b in
      record { α = h.α - 1; β = h.β - 1; below_a = half_less h.α s.a a h.below_a; below_b = half_less h.β s.b b h.below_b; balance = grind (arith, ints, h.balance.phase a) }
  room_by s false true x a b d h z =
      let l = some_bit h.β s.b z h.below_b in
      record { α = h.β; β = h.α - 1; below_a = h.below_b; below_b = half_less h.α s.a a h.below_a; balance = grind (arith, ints, h.balance.phase a) }
  room_by s true false x a b d h z =
      let l = some_bit h.β s.b z h.below_b in
      record { α = h.α; β = h.β - 1; below_a = h.below_a; below_b = half_less h.β s.b b h.below_b; balance = grind (arith, ints) }
  room_by s true true false a b d h z = record {
    α = h.α;
    β = h.β;
    below_a = h.below_a;
    below_b = laws.joined_below h.β s.a s.b a b (laws.below_more h.α h.β s.a (omega (arith, ints)) h.below_a) h.below_b;
    balance = grind (arith, ints, laws.joined_even s.a s.b a b);
  }
  room_by s true true true a b d h z = rw (laws.plus_comm s.a s.b) (record {
    α = h.β;
    β = h.α;
    below_a = h.below_b;
    below_b = laws.joined_below h.α s.b s.a b a (laws.below_more h.β h.α s.b (omega (arith, ints)) h.below_b) h.below_a;
    balance = grind (arith, ints, laws.joined_even s.b s.a b a);
  })

  room_kept : Keeps k (Room k Below n)
  unfolding next command
  room_kept s = room_by s (k.odd s.a) (k.odd s.b) (le_z (pos 0) s.δ) refl refl refl

  -- ---- what holds along the run, and the bound
  pub room_after : (x y : K) → Below n x → Below n y → (m : ℕ) → Running k (start x y) m → Room k Below n (after k m (start x y))
  room_after x y h i m = kept_after k (Room k Below n) room_kept m (start x y) (room_start x y h i)

  pub need_within : (x y : K) → Below n x → Below n y → (m : ℕ) × Need k (start x y) m × (m ≤ 4 * n + 1)
  need_within x y h i =
      let w = ends_by_count k (Room k Below n) room_kept (4 * n + 1) (λ s r. omega (arith, r.balance.fuel)) (start x y) (room_start x y h i) in
      (w.0, w.1, omega (arith, w.2))
