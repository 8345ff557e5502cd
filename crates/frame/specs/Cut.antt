-- How input is cut into frames.
use Rattle.std.specs.Prelude.{◌≡◌, ℕ, ◌+◌, ◌≤◌, min, List, [], ◌∷◌, length, take, drop, Some, None, Option}
use Rattle.std.specs.Borrow.{Bor}
use Rattle.frame.specs.Numbers.{word}
use Rattle.frame.specs.declared.cut.Frames.{Frames}

-- How long the first piece is: two bytes and as many more as these say, or all that are left if there are fewer.
abbrev pub piece_length : List ℕ → ℕ
piece_length [] = 0
piece_length (x ∷ []) = 1
piece_length (high ∷ low ∷ following) = 2 + min (word high low) (length following)

-- The first piece of the input, and the rest.
abbrev pub Cuts : List ℕ → List ℕ → List ℕ → Type 0
Cuts input piece rest = (piece ≡ take (piece_length input) input) × (rest ≡ drop (piece_length input) input)

-- All pieces of the input, in their order; an empty input has none.
abbrev pub Pieces : List ℕ → List (List ℕ) → Type 0
Pieces input [] = input ≡ []
Pieces input (piece ∷ pieces) = (rest : List ℕ) × (1 ≤ length input) × Cuts input piece rest × Pieces rest pieces

-- What the next call gives, and what is left after it.
abbrev pub Gives : Frames → Option (Bor (List ℕ)) → Frames → Type 0
Gives s None t = (length s.rest.now ≡ 0) × (t ≡ s)
Gives s (Some piece) t = (1 ≤ length s.rest.now) × Cuts s.rest.now piece.now t.rest.now
