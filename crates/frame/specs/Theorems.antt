-- What is shown of frames.
use Rattle.std.specs.Prelude.{◌≡◌, ℕ, ◌<◌, ◌≤◌, List, ◌++◌, map, length, ℤ}
use Rattle.std.specs.List.{flat_map, AllByRecursion}
use Rattle.rule.specs.Admission.{width}
use Rattle.rule.specs.Admitted.{OrderAdmitted, OperandsAdmitted}
use Rattle.rule.specs.Whole.{Below}
use Rattle.rule.specs.declared.pair.AdmittedPair.{AdmittedPair}
use Rattle.frame.specs.Numbers.{signed_bytes, signed_value}
use Rattle.frame.specs.Frames.{pair_frame, frame_of}
use Rattle.frame.specs.Reading.{reading, read}
use Rattle.frame.specs.Cut.{Cuts, Pieces}
use Rattle.frame.specs.Hex.{hex_text, hex_reading, good}

-- The frame of an admitted pair is read as that pair.
abbrev pub PairIsReadBack : Type 0
PairIsReadBack = (n : ℕ) (a b : ℤ) → OrderAdmitted n → OperandsAdmitted n a b → reading (pair_frame n a b) ≡ read n a b

-- Bytes that are read as a pair are its frame, so that no two inputs are read alike.
abbrev pub FrameIsUnique : Type 0
FrameIsUnique = (bytes : List ℕ) (n : ℕ) (a b : ℤ) → AllByRecursion (λ x. x < 256) bytes → reading bytes ≡ read n a b → bytes ≡ pair_frame n a b

-- A number below 2^n in size is read back from its bytes.
abbrev pub NumberIsReadBack : Type 0
NumberIsReadBack = (n : ℕ) (z : ℤ) → Below n z → signed_value (signed_bytes (width n) z) ≡ z

-- Bytes are read back from their hexadecimal text.
abbrev pub HexIsReadBack : Type 0
HexIsReadBack = (bytes : List ℕ) → AllByRecursion (λ x. x < 256) bytes → hex_reading (hex_text bytes) ≡ good bytes

-- Every input is cut into pieces, in one way only.
abbrev pub PiecesOfInput : Type 0
PiecesOfInput = (input : List ℕ) → (pieces : List (List ℕ)) × Pieces input pieces × ((others : List (List ℕ)) → Pieces input others → others ≡ pieces)

-- The pieces one behind the other are the input, and none of them is empty.
abbrev pub PiecesAreWhole : Type 0
PiecesAreWhole = (input : List ℕ) (pieces : List (List ℕ)) → Pieces input pieces → (flat_map (λ piece. piece) pieces ≡ input) × AllByRecursion (λ piece. 1 ≤ length piece) pieces

-- The frame of a pair is cut off whole, whatever is behind it.
abbrev pub FrameIsCutOff : Type 0
FrameIsCutOff = (n : ℕ) (a b : ℤ) (rest : List ℕ) → Cuts (pair_frame n a b ++ rest) (pair_frame n a b) rest

-- The frames of pairs one behind the other are cut back into these frames.
abbrev pub FramesAreCutBack : Type 0
FramesAreCutBack = (pairs : List AdmittedPair) → Pieces (flat_map frame_of pairs) (map frame_of pairs)
