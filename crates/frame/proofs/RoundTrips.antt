-- Frames and back.
use Rattle.std.proofs.Common.{◌≡◌, ℕ, ◌+◌, ◌*◌, ◌/◌, ◌%◌, ◌^◌, ◌<◌, ◌≤◌, List, [], ◌∷◌, ◌++◌, length, get_or, take, drop, ℤ, pos, negsuc, nat_abs, Some, None, Ok, Err, Option, Result, sym, refl, ap, ◌∙◌, ap₂, add-one, arith, pow_mono}
use lib.Signed.{mag}
use Rattle.std.specs.List.{AllByRecursion}
use Rattle.std.proofs.ByRecursion.{All-take, All-drop, All-from_get_or}
use Rattle.std.proofs.lemmas.List.{length-take-le, length-drop, length-append, take_at, drop_at, take-append-drop}
use Rattle.std.proofs.lemmas.Bool.{eq-eqb, ne_eqb, le-leb, lt-leb}
use Rattle.std.proofs.lemmas.Int.{ints}
use Rattle.rule.specs.Admission.{width, order_objection, pair_objection}
use Rattle.rule.specs.Admitted.{OrderAdmitted, OperandsAdmitted}
use Rattle.rule.specs.declared.fault.Fault.{Fault}
use Rattle.rule.specs.declared.pair.AdmittedPair.{AdmittedPair}
use Rattle.frame.specs.Numbers.{word, signed_bytes, signed_value}
use Rattle.frame.specs.Frames.{pair_frame}
use Rattle.frame.specs.Reading.{read, head_objection, then, checked, Reads, Framed}
use Rattle.frame.specs.Theorems.{PairIsReadBack, FrameIsUnique, NumberIsReadBack}
use Rattle.frame.proofs.Numbers.{length-signed_bytes, read_back, bytes_of_value}
use Rattle.frame.proofs.Reading.{reading_headed, head_filled}

-- ---- numbers
mag_small : (z : ℤ) → mag z ≤ nat_abs z
mag_small (pos n) = omega arith
mag_small (negsuc n) = omega arith

pub number_read_back : NumberIsReadBack
number_read_back n z h =
    let w : 2 ^ n ≤ 2 ^ (8 * (n / 8) + 7) = pow_mono (let l : n ≤ 8 * (n / 8) + 7 = omega arith in l) in
    ap (λ k. signed_value (signed_bytes k z)) (add-one (n / 8)) ∙ read_back (n / 8) z (omega (arith, w, h, mag_small z))

-- ---- a frame that was written
order_admits : (n : ℕ) → OrderAdmitted n → order_objection (pos n) ≡ None
order_admits n h = rw (le-leb 1 n h.0, le-leb n 56 h.1)

operands_admit : (n : ℕ) (a b : ℤ) → OperandsAdmitted n a b → pair_objection n a b ≡ None
operands_admit n a b h = rw (lt-leb (2 ^ n) (nat_abs a) h.0, lt-leb (2 ^ n) (nat_abs b) h.1, ne_eqb (nat_abs b) 0 (λ e. h.2 (omega (arith, ints))))

pub pair_read_back : PairIsReadBack
pair_read_back n a b o h =
    let k = width n in
    let x = signed_bytes k a in
    let y = signed_bytes k b in
    let l : length (x ++ y) ≡ 2 * k = length-append x y ∙ omega (arith, length-signed_bytes k a, length-signed_bytes k b) in
    let len : word ((3 + 2 * k) / 256) ((3 + 2 * k) % 256) ≡ 3 + length (x ++ y) = omega (arith, l) in
    let good : head_objection (word ((3 + 2 * k) / 256) ((3 + 2 * k) % 256)) 1 n (length (x ++ y)) ≡ None = rw (eq-eqb _ _ len, order_admits n o, eq-eqb _ _ l) refl in
    reading_headed (pair_frame n a b) n a b (omega arith) (omega arith) good
    (sym (number_read_back n a h.0) ∙ ap signed_value (sym (take_at x y k (length-signed_bytes k a))))
    (sym (number_read_back n b h.1) ∙ ap signed_value (sym (drop_at x y k (length-signed_bytes k a))))
    ∙ ap (λ w. then w (read n a b)) (operands_admit n a b h)

-- ---- bytes that were read
-- Where reading ends with a pair there was no objection.
record Clear (o : Option Fault) (m n : ℕ) (x y a b : ℤ) : Type 0 where
  head : o ≡ None
  order : m ≡ n
  first : x ≡ a
  second : y ≡ b

clear : (o p : Option Fault) (m n : ℕ) (x y a b : ℤ) → then o (then p (read m x y)) ≡ read n a b → Clear o m n x y a b
clear None None m n x y a b e = record { head = refl; order = cc; first = cc; second = cc }
clear (Some f) p m n x y a b e = cc
clear None (Some f) m n x y a b e = cc

operand_bytes : (k : ℕ) (xs : List ℕ) (z : ℤ) → length xs ≡ k → AllByRecursion (λ x. x < 256) xs → signed_value xs ≡ z → signed_bytes k z ≡ xs
operand_bytes k xs z l h e = ap₂ signed_bytes (sym l) (sym e) ∙ bytes_of_value xs h

checked_unique : (p q v s t : ℕ) (ops : List ℕ) (n : ℕ) (a b : ℤ) → AllByRecursion (λ x. x < 256) (p ∷ q ∷ v ∷ s ∷ t ∷ ops) → checked (word p q) v (word s t) ops ≡ read n a b → p ∷ q ∷ v ∷ s ∷ t ∷ ops ≡ pair_frame n a b
checked_unique p q v s t ops n a b h e =
    let m = word s t in
    let k = width m in
    let x = signed_value (take k ops) in
    let y = signed_value (drop k ops) in
    let c = clear (head_objection (word p q) v m (length ops)) (pair_objection m x y) m n x y a b e in
    let good = head_filled (word p q) v m (length ops) c.head in
    let len = good.0 in
    let fill = good.2 in
    let ta = operand_bytes k (take k ops) a (length-take-le k ops (omega (arith, fill))) (All-take (λ z. z < 256) k ops h.1.1.1.1.1) c.first in
    let tb = operand_bytes k (drop k ops) b (length-drop k ops ∙ omega (arith, fill)) (All-drop (λ z. z < 256) k ops h.1.1.1.1.1) c.second in
    let ep : p ≡ (3 + 2 * k) / 256 = omega (arith, len, fill, h.0, h.1.0) in
    let eq : q ≡ (3 + 2 * k) % 256 = omega (arith, len, fill, h.0, h.1.0) in
    let es : s ≡ m / 256 = omega (arith, h.1.1.1.0, h.1.1.1.1.0) in
    let et : t ≡ m % 256 = omega (arith, h.1.1.1.0, h.1.1.1.1.0) in
    let eo : ops ≡ signed_bytes k a ++ signed_bytes k b = sym (ap₂ (λ (u w : List ℕ). u ++ w) ta tb ∙ take-append-drop k ops) in
    let there : p ∷ q ∷ v ∷ s ∷ t ∷ ops ≡ pair_frame m a b = cc (ep, eq, good.1, es, et, eo) in
    there ∙ ap (λ i. pair_frame i a b) c.order

pub frame_unique : FrameIsUnique
frame_unique [] n a b h e = cc
frame_unique (p ∷ []) n a b h e = cc
frame_unique (p ∷ q ∷ []) n a b h e = cc
frame_unique (p ∷ q ∷ v ∷ []) n a b h e = cc
frame_unique (p ∷ q ∷ v ∷ s ∷ []) n a b h e = cc
frame_unique (p ∷ q ∷ v ∷ s ∷ t ∷ ops) n a b h e = checked_unique p q v s t ops n a b h e

-- every byte of a slice of bytes is one
pub framed : (bs : List ℕ) (r : Result AdmittedPair Fault) → ((i : ℕ) → get_or bs i 0 < 256) → Reads bs r → Framed bs r
framed bs (Ok p) h e = frame_unique bs p.order.value p.a p.b (All-from_get_or (λ x. x < 256) bs 0 (λ i l. h i)) e
framed bs (Err f) h e = tt
