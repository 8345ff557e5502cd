-- Bytes of whole numbers: one byte more, how many there are, and the way back.
use Rattle.std.proofs.Common.{◌≡◌, ℕ, zero, suc, ◌+◌, ◌-◌, ◌*◌, ◌^◌, ◌<◌, ◌≤◌, List, [], ◌∷◌, ◌++◌, length, get_or, take, drop, set, ℤ, pos, negsuc, ◌-ℤ◌, neg_ℤ, ◌≤ℤ◌, ◌<ℤ◌, sym, refl, ap, ◌∙◌, ap₂, ⊎_elim, mul_comm, add-one, arith, pow_mono, pow-add}
use lib.Signed.{shr_z, mag}
use Rattle.std.specs.List.{AllByRecursion}
use Rattle.std.proofs.lemmas.Int.{ints}
use Rattle.std.proofs.lemmas.List.{take_rest, append-nil, append_assoc, drop-set, drop_all, length_push}
use Rattle.std.proofs.lemmas.Bool.{lt-ltb, le-ltb, cases_lt}
use Rattle.frame.specs.Numbers.{low_byte, signed_bytes, sign_byte, appended, signed_from, signed_value}

-- ---- one byte more, within the range of its width
pow_next : (i : ℕ) → 2 ^ (8 * (i + 1) + 7) ≡ 256 * 2 ^ (8 * i + 7)
pow_next i =
    let e : 8 * (i + 1) + 7 ≡ (8 * i + 7) + 8 = omega arith in
    ap (λ n. 2 ^ n) e ∙ pow-add 2 (8 * i + 7) 8 ∙ mul_comm (2 ^ (8 * i + 7)) 256

pub seven_more_fit : (i : ℕ) → i < 7 → 2 ^ (8 * i + 7) ≤ 2 ^ 55
seven_more_fit i h = let e : 8 * i + 7 ≤ 55 = omega arith in pow_mono e

pub appended_low : (i x : ℕ) (z : ℤ) → x < 256 → neg_ℤ (pos (2 ^ (8 * i + 7))) ≤ℤ z → neg_ℤ (pos (2 ^ (8 * (i + 1) + 7))) ≤ℤ appended z x
appended_low i x z h l = let e = pow_next i in omega (arith, ints)

pub appended_high : (i x : ℕ) (z : ℤ) → x < 256 → z <ℤ pos (2 ^ (8 * i + 7)) → appended z x <ℤ pos (2 ^ (8 * (i + 1) + 7))
appended_high i x z h l = let e = pow_next i in omega (arith, ints)

pub signed_value-first : (xs : List ℕ) → 1 ≤ length xs → signed_value xs ≡ signed_from (sign_byte (get_or xs 0 0)) (take (length xs - 1) (drop 1 xs))
unfolding signed_value
signed_value-first [] h = absurd (omega arith)
signed_value-first (x ∷ xs) h = ap (signed_from (sign_byte x)) (sym (take_rest (x ∷ xs) 1))

-- ---- low byte and the rest
pub appended_rest : (z : ℤ) → appended (shr_z z 256) (low_byte z) ≡ z
appended_rest (pos n) = omega (arith, ints)
appended_rest (negsuc n) = omega (arith, ints)

rest_of : (y z : ℤ) (x : ℕ) → y ≡ appended z x → x < 256 → shr_z y 256 ≡ z
rest_of (pos n) z x e h = omega (arith, ints)
rest_of (negsuc n) z x e h = omega (arith, ints)

low_of : (y z : ℤ) (x : ℕ) → y ≡ appended z x → x < 256 → low_byte y ≡ x
low_of (pos n) z x e h = omega (arith, ints)
low_of (negsuc n) z x e h = omega (arith, ints)

pub length-signed_bytes : (k : ℕ) (z : ℤ) → length (signed_bytes k z) ≡ k
unfolding signed_bytes
length-signed_bytes zero z = refl
length-signed_bytes (suc k) z = length_push (signed_bytes k (shr_z z 256)) (low_byte z) ∙ omega (arith, length-signed_bytes k (shr_z z 256))

-- ---- bytes of a number, and the number of bytes
signed_from-push : (z : ℤ) (xs : List ℕ) (x : ℕ) → signed_from z (xs ++ x ∷ []) ≡ appended (signed_from z xs) x
unfolding signed_from
signed_from-push z [] x = refl
signed_from-push z (y ∷ ys) x = signed_from-push (appended z y) ys x

signed_value-push : (xs : List ℕ) (x : ℕ) → 1 ≤ length xs → signed_value (xs ++ x ∷ []) ≡ appended (signed_value xs) x
unfolding signed_value
signed_value-push [] x h = absurd (omega arith)
signed_value-push (y ∷ ys) x h = signed_from-push (sign_byte y) ys x

sign_small : (x : ℕ) → x < 128 → sign_byte x ≡ pos x
sign_small x h = rw (lt-ltb x 128 h)

sign_large : (x : ℕ) → 128 ≤ x → sign_byte x ≡ pos x -ℤ pos 256
sign_large x h = rw (le-ltb x 128 h)

sign_low : (z : ℤ) → mag z < 128 → sign_byte (low_byte z) ≡ z
sign_low (pos n) h = sign_small (low_byte (pos n)) (omega arith) ∙ omega (arith, ints)
sign_low (negsuc n) h = sign_large (low_byte (negsuc n)) (omega arith) ∙ omega (arith, ints)

low_sign : (x : ℕ) → x < 256 → low_byte (sign_byte x) ≡ x
low_sign x h =
    ⊎_elim (λ l. ap low_byte (sign_small x l) ∙ omega arith) (λ l. ap low_byte (sign_large x l) ∙ low_of (pos x -ℤ pos 256) (negsuc 0) x (omega (arith, ints)) h) (cases_lt x 128)

rest_range : (z : ℤ) (w : ℕ) → mag z < 256 * w → mag (shr_z z 256) < w
rest_range (pos n) w h = omega arith
rest_range (negsuc n) w h = omega arith

-- a number in the range of its bytes is read back from them
pub read_back : (k : ℕ) (z : ℤ) → mag z < 2 ^ (8 * k + 7) → signed_value (signed_bytes (suc k) z) ≡ z
unfolding signed_bytes signed_value signed_from
read_back zero z h = sign_low z h
read_back (suc k) z h =
    let xs = signed_bytes (suc k) (shr_z z 256) in
    let e = ap (λ i. 2 ^ (8 * i + 7)) (sym (add-one k)) ∙ pow_next k in
    let l : 1 ≤ length xs = omega (arith, length-signed_bytes (suc k) (shr_z z 256)) in
    signed_value-push xs (low_byte z) l ∙ ap (λ y. appended y (low_byte z)) (read_back k (shr_z z 256) (rest_range z (2 ^ (8 * k + 7)) (omega (arith, e, h)))) ∙ appended_rest z

-- bytes are the bytes of the number that they stand for
bytes_from : (k : ℕ) (z : ℤ) (xs : List ℕ) → AllByRecursion (λ x. x < 256) xs → signed_bytes (length xs + k) (signed_from z xs) ≡ signed_bytes k z ++ xs
unfolding signed_from signed_bytes
bytes_from k z [] h = ap (λ m. signed_bytes m z) (let e : 0 + k ≡ k = omega arith in e) ∙ sym (append-nil (signed_bytes k z))
bytes_from k z (x ∷ xs) h =
    let y = appended z x in
    let e : suc (length xs) + k ≡ length xs + suc k = omega arith in
    ap (λ m. signed_bytes m (signed_from y xs)) e
    ∙ bytes_from (suc k) y xs h.1
    ∙ ap₂ (λ (r : ℤ) (b : ℕ). (signed_bytes k r ++ b ∷ []) ++ xs) (rest_of y z x refl h.0) (low_of y z x refl h.0)
    ∙ append_assoc (signed_bytes k z) (x ∷ []) xs

pub bytes_of_value : (xs : List ℕ) → AllByRecursion (λ x. x < 256) xs → signed_bytes (length xs) (signed_value xs) ≡ xs
unfolding signed_value signed_bytes
bytes_of_value [] h = refl
bytes_of_value (x ∷ xs) h =
    let e : suc (length xs) ≡ length xs + 1 = omega arith in
    ap (λ m. signed_bytes m (signed_from (sign_byte x) xs)) e ∙ bytes_from 1 (sign_byte x) xs h.1 ∙ ap (λ b. b ∷ xs) (low_sign x h.0)

-- ---- a number, written from its last byte to its first
pub byte_more : (xs : List ℕ) (j x : ℕ) (z : ℤ) → x ≡ low_byte z → j < length xs → signed_bytes j (shr_z z 256) ++ drop j (set xs j x) ≡ signed_bytes (suc j) z ++ drop (suc j) xs
unfolding signed_bytes
byte_more xs j x z e h =
    let s : j + 1 ≡ suc j = omega arith in
    ap (λ l. signed_bytes j (shr_z z 256) ++ l) (drop-set xs j x h ∙ ap₂ (λ (b m : ℕ). b ∷ drop m xs) e s) ∙ sym (append_assoc (signed_bytes j (shr_z z 256)) (low_byte z ∷ []) (drop (suc j) xs))

pub bytes_all : (xs before : List ℕ) (i : ℕ) (z y : ℤ) → i ≡ 0 → signed_bytes i z ++ drop i xs ≡ signed_bytes (length before) y ++ drop (length before) before → xs ≡ signed_bytes (length before) y
unfolding signed_bytes
bytes_all xs before zero z y n e = e ∙ ap (λ l. signed_bytes (length before) y ++ l) (drop_all (length before) before (omega arith)) ∙ append-nil (signed_bytes (length before) y)
bytes_all xs before (suc i) z y n e = absurd (omega arith)
