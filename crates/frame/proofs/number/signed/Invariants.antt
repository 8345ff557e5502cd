use Rattle.std.proofs.Common.{◌≡◌, ◌+◌, ◌*◌, ◌^◌, drop, pos, neg_ℤ, ◌≤ℤ◌, ◌<ℤ◌}
use Rattle.frame.specs.Numbers.{signed_from}
use Rattle.frame.proofs.number.signed.Given as goal

abbrev pub invariant-loop-x : goal.invariant-loop-x
invariant-loop-x l =
    (neg_ℤ (pos (2 ^ (8 * l.x-index + 7))) ≤ℤ l.value) × (l.value <ℤ pos (2 ^ (8 * l.x-index + 7))) × (signed_from l.value (drop l.x-index l.rest) ≡ signed_from l.initial.value l.rest)
