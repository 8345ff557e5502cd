use Rattle.std.proofs.Common.{◌≡◌, ℕ, List, ◌++◌}
use Rattle.std.specs.Fmt.{HasWritten, IsPlainFormatter}
use Rattle.std.specs.Slice.Iter.{chunks_rest, chunks_size}
use Rattle.frame.specs.Hex.{hex_text}
use Rattle.frame.proofs.hex.HexDisplay.fmt.Given as goal

abbrev pub invariant-loop-part : goal.invariant-loop-part
invariant-loop-part g l =
    (chunks_size l.part-iterator ≡ 32)
    × (IsPlainFormatter l.initial.f → (front : List ℕ) × HasWritten g.W.Write.write_str_gives l.initial.f front l.f × (front ++ hex_text (chunks_rest l.part-iterator) ≡ hex_text l.self.0.now))
