-- Whole numbers: the laws that the bound rests on, exact halvings, and how narrow a run stays.
use Rattle.std.proofs.Common.{◌≡◌, ℕ, ◌^◌, ◌≤◌, true, ℤ, pos, ◌+ℤ◌, refl, arith, pow_mono}
use lib.IntN.{+ℤ_comm}
use Rattle.std.proofs.lemmas.Int.{ints}
use Rattle.std.proofs.lemmas.Bool.Decides.{nat_tests}
use Rattle.rule.specs.Rule.{start, command, next, after, Running}
use Rattle.rule.specs.Whole.{is_zero, odd, half, fourfold, whole, Below}
use Rattle.rule.specs.Theorems.{WholeIsLawful, HalvingsAreExact, NeedIsBounded, Narrow, RunIsNarrow}
use Rattle.rule.proofs.Parity.{odd_no, joins}
use Rattle.rule.proofs.Bound.{need_within, room_after}

pub zero_yes : (z : ℤ) → is_zero z ≡ true → z ≡ pos 0
zero_yes z e = grind (arith, ints, nat_tests)

-- ---- the laws
pub whole_lawful : WholeIsLawful
whole_lawful =
    record {
      below_none = λ x h. grind (arith, nat_tests);
      below_more = λ m n x l h. omega (arith, pow_mono l);
      half_below = λ m x e h. omega (arith, ints, odd_no x e);
      plus_comm = +ℤ_comm;
      joined_even = λ x y o p. (joins x y (fourfold (x +ℤ y)) o p refl).even;
      joined_below = λ m x y o p h i. grind (arith, ints, (joins x y (fourfold (x +ℤ y)) o p refl).twice);
    }

-- ---- only even numbers are halved
pub halvings_exact : HalvingsAreExact
unfolding next command odd half fourfold
halvings_exact s = grind (arith, ints, nat_tests)

-- ---- the bound and the widths
pub need_bounded : NeedIsBounded
need_bounded = need_within whole Below whole_lawful

-- a run that has not met its end before its m-th command is narrow there
pub running_narrow : (n : ℕ) (x y : ℤ) → Below n x → Below n y → (m : ℕ) → Running whole (start x y) m → Narrow n (after whole m (start x y))
running_narrow n x y h i m r =
    let w = room_after whole Below whole_lawful n x y h i m r in
    let a : 2 ^ w.α ≤ 2 ^ n = pow_mono (omega (arith, w.balance.room_a)) in
    let b : 2 ^ w.β ≤ 2 ^ n = pow_mono (omega (arith, w.balance.room_b)) in
    omega (arith, ints, w.below_a, w.below_b, w.balance)

pub run_narrow : RunIsNarrow
run_narrow n x y h i m need j l = running_narrow n x y h i j (λ o p. need.before o (omega arith))
