-- What reading any bytes as the frame of a pair answers.
use Rattle.std.specs.Prelude.{◌≡◌, ℕ, ◌+◌, ◌*◌, Bool, cond, List, [], ◌∷◌, length, take, drop, ℤ, pos, Some, None, Ok, Err, Option, Result, ◌==◌}
use Rattle.rule.specs.Admission.{width, order_objection, pair_objection}
use Rattle.rule.specs.Refusal.{fault}
use Rattle.rule.specs.declared.fault.Fault.{Fault}
use Rattle.rule.specs.declared.fault.Layer.TheVariants.{Frame}
use Rattle.rule.specs.declared.fault.Reason.{Reason}
use Rattle.rule.specs.declared.fault.Reason.TheVariants.{FrameTooShort, LengthDiffers, WrongVersion, OperandsDoNotFill}
use Rattle.rule.specs.declared.order.Order.{Order}
use Rattle.rule.specs.declared.pair.AdmittedPair.{AdmittedPair}
use Rattle.frame.specs.Numbers.{word, signed_value}
use Rattle.frame.specs.Frames.{pair_frame}

-- A refusal, or the order and the operands that were read.
pub data Reading : Type 0 where
  refused : Fault → Reading
  read : ℕ → ℤ → ℤ → Reading

-- What stands against a frame where a test fails.
abbrev pub unless : Bool → Reason → ℕ → Option Fault
unless ok r place = cond ok None (Some (fault r Frame place))

-- The first objection of two.
abbrev pub or_else : Option Fault → Option Fault → Option Fault
or_else (Some f) o = Some f
or_else None o = o

-- What stands against a frame's length, version and order, where so many bytes stand after these; in the order of the checks.
abbrev pub head_objection : ℕ → ℕ → ℕ → ℕ → Option Fault
head_objection len version n filled =
    or_else (unless (len == 3 + filled) LengthDiffers 0)
    (or_else (unless (version == 1) WrongVersion 2)
    (or_else (order_objection (pos n))
    (unless (filled == 2 * width n) OperandsDoNotFill 5)))

-- The first objection, and only without one what comes after it.
abbrev pub then : Option Fault → Reading → Reading
then (Some f) r = refused f
then None r = r

-- What is read of a frame's length, version, order and the bytes after these.
abbrev pub checked : ℕ → ℕ → ℕ → List ℕ → Reading
checked len version n operands =
    then (head_objection len version n (length operands))
    (then (pair_objection n (signed_value (take (width n) operands)) (signed_value (drop (width n) operands)))
    (read n (signed_value (take (width n) operands)) (signed_value (drop (width n) operands))))

abbrev pub too_short : ℕ → Reading
too_short have = refused (fault FrameTooShort Frame have)

-- What reading bytes as the frame of a pair answers.
abbrev pub reading : List ℕ → Reading
reading [] = too_short 0
reading (x ∷ []) = too_short 1
reading (x ∷ y ∷ []) = too_short 2
reading (x ∷ y ∷ z ∷ []) = too_short 3
reading (x ∷ y ∷ z ∷ w ∷ []) = too_short 4
reading (l0 ∷ l1 ∷ version ∷ o0 ∷ o1 ∷ operands) = checked (word l0 l1) version (word o0 o1) operands

abbrev pub ReadsHead : ℕ → ℕ → ℕ → ℕ → Result Order Fault → Type 0
ReadsHead len version n filled (Ok o) = (o.value ≡ n) × (head_objection len version n filled ≡ None)
ReadsHead len version n filled (Err f) = head_objection len version n filled ≡ Some f

abbrev pub Reads : List ℕ → Result AdmittedPair Fault → Type 0
Reads bytes (Ok p) = reading bytes ≡ read p.order.value p.a p.b
Reads bytes (Err f) = reading bytes ≡ refused f

-- What was read as a pair is the frame of that pair and nothing else.
abbrev pub Framed : List ℕ → Result AdmittedPair Fault → Type 0
Framed bytes (Ok p) = bytes ≡ pair_frame p.order.value p.a p.b
Framed bytes (Err f) = Unit {0}
