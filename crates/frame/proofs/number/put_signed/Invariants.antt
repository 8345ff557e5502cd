use Rattle.std.proofs.Common.{◌≡◌, ◌++◌, length, drop}
use Rattle.frame.specs.Numbers.{signed_bytes}
use Rattle.frame.proofs.number.put_signed.Given as goal

abbrev pub invariant-loop-i : goal.invariant-loop-i
invariant-loop-i l =
    (length l.part ≡ length l.initial.part) × (signed_bytes l.i l.rest ++ drop l.i l.part ≡ signed_bytes (length l.initial.part) l.z ++ drop (length l.initial.part) l.initial.part)
