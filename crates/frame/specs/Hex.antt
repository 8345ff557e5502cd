-- Bytes as text of hexadecimal digits, two for each.
use Rattle.std.specs.Prelude.{◌≡◌, ℕ, ◌+◌, ◌*◌, ◌/◌, ◌%◌, cond, List, [], ◌∷◌, ◌++◌, Some, None, Option, nat_lt, codes}
use Rattle.std.specs.Char.{digit_value, digit_char}
use Rattle.frame.specs.declared.hex.HexFault.{HexFault}
use Rattle.frame.specs.declared.hex.HexFault.TheVariants.{OddLength, NotADigit, NoMemory}

-- The text of bytes, in lower case.
unfoldable pub hex_text : List ℕ → List ℕ
hex_text [] = []
hex_text (x ∷ xs) = digit_char (x / 16) ∷ digit_char (x % 16) ∷ hex_text xs

-- The value of a digit in either case.
abbrev pub hex_digit : ℕ → Option ℕ
hex_digit c = cond (nat_lt (digit_value c) 16) (Some (digit_value c)) None

-- The bytes of a text, or what is wrong with it first.
pub data HexReading : Type 0 where
  bad : HexFault → HexReading
  good : List ℕ → HexReading

-- What is read where bytes stand before it.
abbrev pub after : List ℕ → HexReading → HexReading
after xs (good ys) = good (xs ++ ys)
after xs (bad f) = bad f

-- The byte of two digits.
abbrev pub hex_byte : Option ℕ → Option ℕ → Option ℕ
hex_byte (Some high) (Some low) = Some (high * 16 + low)
hex_byte (Some high) None = None
hex_byte None low = None

abbrev pub byte_then : Option ℕ → HexReading → HexReading
byte_then (Some x) r = after (x ∷ []) r
byte_then None r = bad NotADigit

unfoldable pub hex_reading : List ℕ → HexReading
hex_reading [] = good []
hex_reading (c ∷ []) = bad OddLength
hex_reading (c ∷ d ∷ cs) = byte_then (hex_byte (hex_digit c) (hex_digit d)) (hex_reading cs)

-- What a refusal says of a text; without memory nothing is known of it.
abbrev pub Wrong : List ℕ → HexFault → Type 0
Wrong text OddLength = hex_reading text ≡ bad OddLength
Wrong text NotADigit = hex_reading text ≡ bad NotADigit
Wrong text NoMemory = Unit {0}

-- What a refusal says in a plain sentence.
abbrev pub sentence : HexFault → List ℕ
sentence OddLength = codes "a frame has two hexadecimal digits for each byte"
sentence NotADigit = codes "a frame has only hexadecimal digits"
sentence NoMemory = codes "no memory for the frame"
