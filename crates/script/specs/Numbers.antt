-- The number that a word spells.
use Rattle.std.specs.Prelude.{◌≡◌, ℕ, ◌+◌, ◌-◌, ◌*◌, ◌^◌, ◌<◌, true, List, [], ◌∷◌, length, Some, None, Option}
use Rattle.std.specs.Str.{all_ascii_digits}

-- The digits are read from the left, after the number so far.
abbrev pub read_on : ℕ → List ℕ → ℕ
read_on n [] = n
read_on n (c ∷ cs) = read_on (10 * n + (c - 48)) cs

-- The number of decimal digits.
abbrev pub decimal_value : List ℕ → ℕ
decimal_value = read_on 0

-- Decimal digits and nothing else, at least one, of a number of at most 64 bits.
abbrev pub IsNumber : List ℕ → Type 0
IsNumber word = (all_ascii_digits word ≡ true) × (0 < length word) × (decimal_value word < 2 ^ 64)

-- The number that a word spells, and none where it spells no such number.
abbrev pub NumberOf : List ℕ → Option ℕ → Type 0
NumberOf word (Some n) = IsNumber word × (n ≡ decimal_value word)
NumberOf word None = IsNumber word → ⊥
