-- What the constructors of orders and admitted pairs answer, for every input.
use Rattle.std.specs.Prelude.{◌≡◌, ℕ, ◌+◌, ◌/◌, ◌^◌, cond, ◌&&◌, ℤ, pos, Some, None, Ok, Err, Option, Result, int_le, nat_le, unsigned_abs}
use Rattle.rule.specs.Whole.{is_zero}
use Rattle.rule.specs.Refusal.{fault}
use Rattle.rule.specs.declared.fault.Fault.{Fault}
use Rattle.rule.specs.declared.fault.Layer.TheVariants.{Frame}
use Rattle.rule.specs.declared.fault.Reason.TheVariants.{OrderOutOfRange, OperandTooLarge, DenominatorZero}
use Rattle.rule.specs.declared.order.Order.{Order}
use Rattle.rule.specs.declared.pair.AdmittedPair.{AdmittedPair}

-- How many bytes an operand of order n takes in a frame; the first operand begins at byte 5.
abbrev pub width : ℕ → ℕ
width n = n / 8 + 1

-- What stands against n as an order.
abbrev pub order_objection : ℤ → Option Fault
order_objection n = cond (int_le (pos 1) n && int_le n (pos 56)) None (Some (fault OrderOutOfRange Frame 3))

-- The order n where nothing stands against it, and else what does.
abbrev pub AdmitsOrder : ℤ → Result Order Fault → Type 0
AdmitsOrder n (Ok o) = (pos o.value ≡ n) × (order_objection n ≡ None)
AdmitsOrder n (Err f) = order_objection n ≡ Some f

-- What stands against a and b as a pair of order n: the first check that fails, and its place in the pair's frame.
abbrev pub pair_objection : ℕ → ℤ → ℤ → Option Fault
pair_objection n a b =
    cond (nat_le (2 ^ n) (unsigned_abs a)) (Some (fault OperandTooLarge Frame 5))
    (cond (nat_le (2 ^ n) (unsigned_abs b)) (Some (fault OperandTooLarge Frame (5 + width n)))
    (cond (is_zero b) (Some (fault DenominatorZero Frame (5 + width n))) None))

-- The pair where nothing stands against it, and else what does.
abbrev pub AdmitsPair : Order → ℤ → ℤ → Result AdmittedPair Fault → Type 0
AdmitsPair o a b (Ok p) = (p.order ≡ o) × (p.a ≡ a) × (p.b ≡ b) × (pair_objection o.value a b ≡ None)
AdmitsPair o a b (Err f) = pair_objection o.value a b ≡ Some f

-- What stands against n as an order, and else against a and b as a pair of it.
abbrev pub objection : ℤ → ℤ → ℤ → Option Fault
objection n a b = elim (order_objection n) [ Some f ↦ Some f | None ↦ pair_objection (unsigned_abs n) a b ]

-- The pair where nothing stands against the numbers, and else what does.
abbrev pub Admits : ℤ → ℤ → ℤ → Result AdmittedPair Fault → Type 0
Admits n a b (Ok p) = (pos p.order.value ≡ n) × (p.a ≡ a) × (p.b ≡ b) × (objection n a b ≡ None)
Admits n a b (Err f) = objection n a b ≡ Some f
