-- Hexadecimal text, two digits at a time.
use Rattle.std.proofs.Common.{◌≡◌, ℕ, ◌+◌, ◌*◌, ◌/◌, ◌%◌, ◌<◌, cond, ltb, List, [], ◌∷◌, ◌++◌, length, get_or, take, Some, None, Option, sym, refl, ap, ◌∙◌, ap₂, ⊎_elim, arith, ◌≤◌, take_all, zero, suc}
use Rattle.frame.specs.Theorems.{HexIsReadBack}
use Rattle.std.specs.Char.{digit_char}
use Rattle.std.proofs.lemmas.List.{append_assoc, append-nil, take_more, take_more_set, length-set}
use Rattle.std.proofs.lemmas.Bool.{lt-ltb, le-ltb, cases_lt}
use Rattle.std.proofs.lemmas.Str.{digit_value-digit_char, IsUtf8-from_ascii}
use Rattle.std.proofs.lemmas.Str.Ascii.{IsAscii-nil}
use Rattle.std.proofs.lemmas.Grind.{take-set_at}
use Rattle.std.proofs.Math.ListN.{set}
use Rattle.std.specs.Str.{IsAscii, IsUtf8}
use Rattle.frame.specs.Hex.{hex_text, hex_digit, hex_byte as byte_of, HexReading, good, bad, after, byte_then, hex_reading}
use Rattle.frame.specs.declared.hex.HexFault.TheVariants.{OddLength, NotADigit}

after_push : (xs : List ℕ) (x : ℕ) (r : HexReading) → after xs (after (x ∷ []) r) ≡ after (xs ++ x ∷ []) r
after_push xs x (good ys) = ap good (sym (append_assoc xs (x ∷ []) ys))
after_push xs x (bad f) = refl

read_two : (t xs left pair rest : List ℕ) (o : Option ℕ) → hex_reading t ≡ after xs (hex_reading left) → left ≡ pair ++ rest → length pair ≡ 2 → byte_of (hex_digit (get_or pair 0 0)) (hex_digit (get_or pair 1 0)) ≡ o → hex_reading t ≡ after xs (byte_then o (hex_reading rest))
unfolding hex_reading
read_two t xs left [] rest o e p h b = absurd (omega arith)
read_two t xs left (c ∷ []) rest o e p h b = absurd (omega arith)
read_two t xs left (c ∷ d ∷ []) rest o e p h b = e ∙ ap (λ l. after xs (hex_reading l)) p ∙ ap (λ r. after xs (byte_then r (hex_reading rest))) b
read_two t xs left (c ∷ d ∷ f ∷ more) rest o e p h b = absurd (omega arith)

pub reading_more : (t xs left pair rest : List ℕ) (x : ℕ) → hex_reading t ≡ after xs (hex_reading left) → left ≡ pair ++ rest → length pair ≡ 2 → byte_of (hex_digit (get_or pair 0 0)) (hex_digit (get_or pair 1 0)) ≡ Some x → hex_reading t ≡ after (xs ++ x ∷ []) (hex_reading rest)
reading_more t xs left pair rest x e p h b = read_two t xs left pair rest (Some x) e p h b ∙ after_push xs x (hex_reading rest)

pub reading_no_digit : (t xs left pair rest : List ℕ) → hex_reading t ≡ after xs (hex_reading left) → left ≡ pair ++ rest → length pair ≡ 2 → byte_of (hex_digit (get_or pair 0 0)) (hex_digit (get_or pair 1 0)) ≡ None → hex_reading t ≡ bad NotADigit
reading_no_digit t xs left pair rest e p h b = read_two t xs left pair rest None e p h b

pub reading_all : (t xs left : List ℕ) → length left ≡ 0 → hex_reading t ≡ after xs (hex_reading left) → hex_reading t ≡ good xs
unfolding hex_reading
reading_all t xs [] h e = e ∙ ap good (append-nil xs)
reading_all t xs (c ∷ cs) h e = absurd (omega arith)

pub reading_odd : (t xs left : List ℕ) → length left ≡ 1 → hex_reading t ≡ after xs (hex_reading left) → hex_reading t ≡ bad OddLength
unfolding hex_reading
reading_odd t xs [] h e = absurd (omega arith)
reading_odd t xs (c ∷ []) h e = e
reading_odd t xs (c ∷ d ∷ cs) h e = absurd (omega arith)

hex_text-push : (bs : List ℕ) (x : ℕ) → hex_text (bs ++ x ∷ []) ≡ hex_text bs ++ digit_char (x / 16) ∷ digit_char (x % 16) ∷ []
unfolding hex_text
hex_text-push [] x = refl
hex_text-push (b ∷ bs) x = ap (λ l. digit_char (b / 16) ∷ digit_char (b % 16) ∷ l) (hex_text-push bs x)

hex_text-append : (bs cs : List ℕ) → hex_text (bs ++ cs) ≡ hex_text bs ++ hex_text cs
unfolding hex_text
hex_text-append [] cs = refl
hex_text-append (b ∷ bs) cs = ap (λ l. digit_char (b / 16) ∷ digit_char (b % 16) ∷ l) (hex_text-append bs cs)

-- the text of one byte more
pub text_more : (bs : List ℕ) (i : ℕ) → i < length bs → hex_text (take i bs) ++ digit_char (get_or bs i 0 / 16) ∷ digit_char (get_or bs i 0 % 16) ∷ [] ≡ hex_text (take (i + 1) bs)
text_more bs i h = sym (hex_text-push (take i bs) (get_or bs i 0)) ∙ ap hex_text (sym (take_more bs i 0 h))

-- ---- digits in the room for them

-- two digits more, at their places
pub digits_more : (room bs : List ℕ) (i high low : ℕ) → 2 * i + 1 < length room → i < length bs → take (2 * i) room ≡ hex_text (take i bs) → high ≡ digit_char (get_or bs i 0 / 16) → low ≡ digit_char (get_or bs i 0 % 16)
    → take (2 * (i + 1)) (set (set room (2 * i) high) (2 * i + 1) low) ≡ hex_text (take (i + 1) bs)
digits_more room bs i high low space within before eh el =
    take-set_at (set room (2 * i) high) (2 * i + 1) (2 * (i + 1)) low (omega arith) (omega (arith, space, length-set room (2 * i) high))
    ∙ ap (λ l. l ++ low ∷ []) (take_more_set room (2 * i) high (omega (arith, space)))
    ∙ append_assoc (take (2 * i) room) (high ∷ []) (low ∷ [])
    ∙ ap₂ (λ l r. l ++ r) before (ap₂ (λ c d. c ∷ d ∷ []) eh el)
    ∙ text_more bs i within

-- as many digits as there are bytes for
pub digits_all : (room bs : List ℕ) (i : ℕ) → length bs ≤ i → i ≤ length bs → take (2 * i) room ≡ hex_text (take i bs) → take (2 * length bs) room ≡ hex_text bs
digits_all room bs i h k before =
    let e : length bs ≡ i = omega (arith, h, k) in
    ap (λ n. take (2 * n) room) e ∙ before ∙ ap hex_text (take_all i bs h)

-- ---- digits are text

digit_ascii : (v : ℕ) → v < 16 → digit_char v < 128
digit_ascii v h =
    ⊎_elim
    (λ l. omega (arith, (let s : digit_char v ≡ 48 + v = rw (lt-ltb v 10 l) in s)))
    (λ l. omega (arith, (let s : digit_char v ≡ 87 + v = rw (le-ltb v 10 l) in s)))
    (cases_lt v 10)

hex_ascii : (bs : List ℕ) → ((i : ℕ) → get_or bs i 0 < 256) → IsAscii (hex_text bs)
unfolding hex_text
hex_ascii [] h i = IsAscii-nil i
hex_ascii (x ∷ xs) h zero = digit_ascii (x / 16) (omega (arith, h 0))
hex_ascii (x ∷ xs) h (suc zero) = digit_ascii (x % 16) (omega arith)
hex_ascii (x ∷ xs) h (suc (suc i)) = hex_ascii xs (λ j. h (suc j)) i

pub hex_utf8 : (bs : List ℕ) → ((i : ℕ) → get_or bs i 0 < 256) → IsUtf8 (hex_text bs)
hex_utf8 bs h = IsUtf8-from_ascii (hex_text bs) (hex_ascii bs h)

-- ---- the text of all bytes, part by part

pub part_more : (all part rest front : List ℕ) → front ++ hex_text (part ++ rest) ≡ all → (front ++ hex_text part) ++ hex_text rest ≡ all
part_more all part rest front e = append_assoc front (hex_text part) (hex_text rest) ∙ ap (λ l. front ++ l) (sym (hex_text-append part rest)) ∙ e

pub part_last : (all rest front : List ℕ) → length rest ≡ 0 → front ++ hex_text rest ≡ all → front ≡ all
unfolding hex_text
part_last all [] front h e = sym (append-nil front) ∙ e
part_last all (c ∷ cs) front h e = absurd (omega (arith, h))

-- ---- text that was written is read back
digit_back : (d : ℕ) → d < 16 → hex_digit (digit_char d) ≡ Some d
digit_back d h = ap (λ v. cond (ltb v 16) (Some v) None) (digit_value-digit_char d (omega arith)) ∙ rw (lt-ltb d 16 h) refl

pub hex_read_back : HexIsReadBack
unfolding hex_text hex_reading
hex_read_back [] h = refl
hex_read_back (x ∷ xs) h =
    let high = digit_back (x / 16) (omega (arith, h.0)) in
    let low = digit_back (x % 16) (omega arith) in
    let same : x / 16 * 16 + x % 16 ≡ x = omega arith in
    ap₂ (λ p q. byte_then (byte_of p q) (hex_reading (hex_text xs))) high low
    ∙ ap₂ (λ b r. byte_then (Some b) r) same (hex_read_back xs h.1)
