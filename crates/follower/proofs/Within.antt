-- How large the entries of the cofactor follower get.
use Rattle.std.proofs.Common.{◌≡◌, ℕ, ◌+◌, ◌^◌, ◌≤◌, true, ◌&&◌, ℤ, pos, neg_ℤ, nat_abs, arith, pow_mono}
use lib.Signed.{le_z, lt_z}
use Rattle.std.proofs.lemmas.Int.{ints}
use Rattle.std.proofs.lemmas.Bool.{and_parts}
use Rattle.rule.specs.Kind.{summed}
use Rattle.rule.specs.Whole.{half, whole}
use Rattle.rule.specs.declared.command.Sign.{Sign}
use Rattle.follower.specs.Cofactor.{in_range}
use Rattle.follower.specs.Entries.{Within}
use Rattle.follower.specs.declared.row.Row.{Row}

range_size : (n : ℕ) (z : ℤ) → n ≤ 56 → in_range n z ≡ true → nat_abs z ≤ 2 ^ 58
range_size n z l e =
    let w = and_parts (le_z (neg_ℤ (pos (2 ^ (n + 2)))) z) (lt_z z (pos (2 ^ (n + 2)))) e in
    let m : n + 2 ≤ 58 = omega arith in
    let p : 2 ^ (n + 2) ≤ 2 ^ 58 = pow_mono m in
    omega (arith, ints)

-- the sum or the difference of two rows is twice as large at most
pub within_summed : (g : Sign) (r s : Row ℤ) → Within (2 ^ 58) r → Within (2 ^ 58) s → Within (2 ^ 59) (record { left = summed whole g r.left s.left; right = summed whole g r.right s.right })
within_summed g r s h k = grind arith

pub range_within : (n : ℕ) (r : Row ℤ) → n ≤ 56 → (in_range n r.left && in_range n r.right) ≡ true → Within (2 ^ 58) r
range_within n r l e = grind (arith, range_size)

half_size : (z : ℤ) → nat_abs (half z) ≤ nat_abs z
unfolding half
half_size z = grind (arith, ints)

pub within_halved : (m : ℕ) (r : Row ℤ) → Within m r → Within m (record { left = half r.left; right = half r.right })
within_halved m r h = grind (arith, half_size)
