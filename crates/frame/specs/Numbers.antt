-- Whole numbers as bytes, the most significant byte first; negative ones in two's complement.
use Rattle.std.specs.Prelude.{ℕ, zero, suc, ◌+◌, ◌*◌, ◌/◌, ◌%◌, cond, List, [], ◌∷◌, ◌++◌, ℤ, pos, ◌+ℤ◌, ◌-ℤ◌, ◌*ℤ◌, nat_lt, unsigned_abs}
use Rattle.std.specs.Int.Signed.{shr_z}
use Rattle.std.specs.Int.{int_rem_euclid}

-- The two bytes of a number below 65536, and the number of two bytes.
abbrev pub two_bytes : ℕ → List ℕ
two_bytes v = v / 256 ∷ v % 256 ∷ []

abbrev pub word : ℕ → ℕ → ℕ
word high low = high * 256 + low

-- What z leaves when divided by 256, from 0 to 255.
abbrev pub low_byte : ℤ → ℕ
low_byte z = unsigned_abs (int_rem_euclid z (pos 256))

-- The k bytes of z: its low byte last, and before that the bytes of z / 256, rounded down.
unfoldable pub signed_bytes : ℕ → ℤ → List ℕ
signed_bytes zero z = []
signed_bytes (suc k) z = signed_bytes k (shr_z z 256) ++ low_byte z ∷ []

-- A first byte from 128 on stands for a negative number.
abbrev pub sign_byte : ℕ → ℤ
sign_byte x = cond (nat_lt x 128) (pos x) (pos x -ℤ pos 256)

-- A number with one byte more after its own.
abbrev pub appended : ℤ → ℕ → ℤ
appended z x = z *ℤ pos 256 +ℤ pos x

unfoldable pub signed_from : ℤ → List ℕ → ℤ
signed_from z [] = z
signed_from z (x ∷ xs) = signed_from (appended z x) xs

-- The number that bytes stand for.
unfoldable pub signed_value : List ℕ → ℤ
signed_value [] = pos 0
signed_value (x ∷ xs) = signed_from (sign_byte x) xs
