-- What is read, from what the admission of the operands answers.
use Rattle.std.proofs.Common.{◌≡◌, ℕ, ◌+◌, ◌*◌, ◌≤◌, Bool, true, false, eqb, List, [], ◌∷◌, length, get_or, take, drop, ℤ, pos, Some, None, Ok, Err, Option, Result, sym, refl, ap, ◌∙◌, ap₂, arith}
use Rattle.std.proofs.lemmas.Bool.{eqb-true}
use Rattle.rule.specs.Admission.{width, order_objection, pair_objection, AdmitsPair}
use Rattle.rule.specs.declared.fault.Fault.{Fault}
use Rattle.rule.specs.declared.fault.Reason.{Reason}
use Rattle.rule.specs.declared.fault.Reason.TheVariants.{LengthDiffers, WrongVersion, OperandsDoNotFill}
use Rattle.rule.specs.declared.order.Order.{Order}
use Rattle.rule.specs.declared.pair.AdmittedPair.{AdmittedPair}
use Rattle.frame.specs.Numbers.{word, signed_value}
use Rattle.frame.specs.Reading.{read, unless, or_else, head_objection, then, checked, reading, Reads}

-- a frame with a good head is read as its operands say
pub reading_headed : (bs : List ℕ) (n : ℕ) (a b : ℤ) → 5 ≤ length bs → word (get_or bs 3 0) (get_or bs 4 0) ≡ n → head_objection (word (get_or bs 0 0) (get_or bs 1 0)) (get_or bs 2 0) n (length (drop 5 bs)) ≡ None → a ≡ signed_value (take (width n) (drop 5 bs)) → b ≡ signed_value (drop (width n) (drop 5 bs)) → reading bs ≡ then (pair_objection n a b) (read n a b)
reading_headed [] n a b h m o x y = absurd (omega arith)
reading_headed (p ∷ []) n a b h m o x y = absurd (omega arith)
reading_headed (p ∷ q ∷ []) n a b h m o x y = absurd (omega arith)
reading_headed (p ∷ q ∷ r ∷ []) n a b h m o x y = absurd (omega arith)
reading_headed (p ∷ q ∷ r ∷ s ∷ []) n a b h m o x y = absurd (omega arith)
reading_headed (p ∷ q ∷ r ∷ s ∷ t ∷ ops) n a b h m o x y =
    let k = width n in
    let u = signed_value (take k ops) in
    let w = signed_value (drop k ops) in
    ap (λ i. checked (word p q) r i ops) m ∙ ap (λ i. then i (then (pair_objection n u w) (read n u w))) o ∙ ap₂ (λ i j. then (pair_objection n i j) (read n i j)) (sym x) (sym y)

-- a good head says how many bytes its operands have
pub head_filled : (len version n filled : ℕ) → head_objection len version n filled ≡ None → (len ≡ 3 + filled) × (version ≡ 1) × (filled ≡ 2 * width n)
head_filled len version n filled e =
    let c = clear (unless (eqb len (3 + filled)) LengthDiffers 0) (unless (eqb version 1) WrongVersion 2) (order_objection (pos n)) (unless (eqb filled (2 * width n)) OperandsDoNotFill 5) e in (
      eqb-true len (3 + filled) (unless_none _ LengthDiffers 0 c.0),
      eqb-true version 1 (unless_none _ WrongVersion 2 c.1),
      eqb-true filled (2 * width n) (unless_none _ OperandsDoNotFill 5 c.2),
    )
  where
    unless_none : (t : Bool) (r : Reason) (p : ℕ) → unless t r p ≡ None → t ≡ true
    unless_none true r p e = refl
    unless_none false r p e = cc

    clear : (i j k l : Option Fault) → or_else i (or_else j (or_else k l)) ≡ None → (i ≡ None) × (j ≡ None) × (l ≡ None)
    clear None None None l e = (refl, refl, e)
    clear (Some f) j k l e = cc
    clear None (Some f) k l e = cc
    clear None None (Some f) l e = cc

-- what is admitted is what is read
pub reads_admitted : (bs : List ℕ) (o : Order) (a b : ℤ) (r : Result AdmittedPair Fault) → reading bs ≡ then (pair_objection o.value a b) (read o.value a b) → AdmitsPair o a b r → Reads bs r
reads_admitted bs o a b (Ok p) e h = e ∙ ap (λ x. then x (read o.value a b)) h.3 ∙ cc (h.0, h.1, h.2)
reads_admitted bs o a b (Err f) e h = e ∙ ap (λ x. then x (read o.value a b)) h
