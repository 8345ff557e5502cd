use Rattle.std.proofs.Common.{◌≡◌, vec_items}
use Rattle.std.specs.Slice.Iter.{chunks_rest, chunks_size}
use Rattle.frame.specs.Hex.{after, hex_reading}
use Rattle.frame.proofs.hex.bytes_of.Given as goal

abbrev pub invariant-loop-pair : goal.invariant-loop-pair
invariant-loop-pair l =
    (chunks_size l.pair-iterator ≡ 2) × (hex_reading l.text ≡ after (vec_items l.bytes) (hex_reading (chunks_rest l.pair-iterator)))
