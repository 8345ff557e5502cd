-- Turning the sign of a number keeps its size.
use Rattle.std.specs.Prelude.{◌≡◌, Bool, ℤ, unsigned_abs}
use Rattle.std.proofs.Common.{arith}
use Rattle.std.proofs.lemmas.Int.{ints}
use Rattle.follower.specs.Signs.{negated_by}

pub negated_size : (m : Bool) (z : ℤ) → unsigned_abs (negated_by m z) ≡ unsigned_abs z
negated_size m z = grind (arith, ints)
