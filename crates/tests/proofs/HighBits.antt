-- The high bits of a number of 64 bits.
use Rattle.std.proofs.Common.{ℕ, ◌/◌, ◌^◌, ◌<◌, ◌≤◌, arith}
use Rattle.std.proofs.lemmas.Nat.{div_below, pow_pos}
use Rattle.std.proofs.Math.Pow.{pow_mono}

-- with a bit less they fit a signed number
pub high_bits_fit : (m k : ℕ) → m < 2 ^ 64 → 1 ≤ k → m / 2 ^ k < 2 ^ 63
high_bits_fit m k small some =
    let two : 2 ^ 1 ≤ 2 ^ k = pow_mono some in
    div_below m (2 ^ k) (2 ^ 63) (pow_pos k) (omega arith)
