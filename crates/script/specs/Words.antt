-- The words of a text, which blanks and tabs separate.
use Rattle.std.specs.Prelude.{ℕ, Bool, cond, List, [], ◌∷◌}
use Rattle.std.specs.Char.{char_set_contains}

-- A blank or a tab.
abbrev pub separates : ℕ → Bool
separates = char_set_contains (32 ∷ 9 ∷ [])

-- The text from its first byte that does not separate.
abbrev pub skipped : List ℕ → List ℕ
skipped [] = []
skipped (c ∷ cs) = cond (separates c) (skipped cs) (c ∷ cs)

-- The text before its first byte that separates.
abbrev pub up_to : List ℕ → List ℕ
up_to [] = []
up_to (c ∷ cs) = cond (separates c) [] (c ∷ up_to cs)

-- The text from there.
abbrev pub from : List ℕ → List ℕ
from [] = []
from (c ∷ cs) = cond (separates c) (c ∷ cs) (from cs)

-- The first word of a text, which is empty where there is none.
abbrev pub first_word : List ℕ → List ℕ
first_word text = up_to (skipped text)

-- What follows the first word.
abbrev pub after_word : List ℕ → List ℕ
after_word text = from (skipped text)
