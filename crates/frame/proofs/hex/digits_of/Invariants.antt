use Rattle.std.proofs.Common.{◌≡◌, ◌*◌, length, take}
use Rattle.frame.specs.Hex.{hex_text}
use Rattle.frame.proofs.hex.digits_of.Given as goal

abbrev pub invariant-loop-i : goal.invariant-loop-i
invariant-loop-i l = (length l.digits ≡ 64) × (take (2 * l.i) l.digits ≡ hex_text (take l.i l.bytes))
