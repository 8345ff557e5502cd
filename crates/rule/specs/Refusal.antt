-- The number of each reason for a refusal.
use Rattle.std.specs.Prelude.{ℕ}
use Rattle.rule.specs.declared.fault.Fault.{Fault}
use Rattle.rule.specs.declared.fault.Layer.{Layer}
use Rattle.rule.specs.declared.fault.Reason.{Reason}
use Rattle.rule.specs.declared.fault.Reason.TheVariants.{FrameTooShort, LengthDiffers, WrongVersion, OrderOutOfRange, OperandsDoNotFill, OperandTooLarge, DenominatorZero, BudgetOutOfRange, BufferTooShort, PairHeld, NothingHeld, RunNotOver, RunOver, OrderAboveLargest, CommandNotTaken}

abbrev pub number : Reason → ℕ
number FrameTooShort = 1
number LengthDiffers = 2
number WrongVersion = 3
number OrderOutOfRange = 4
number OperandsDoNotFill = 5
number OperandTooLarge = 6
number DenominatorZero = 7
number BudgetOutOfRange = 8
number BufferTooShort = 9
number PairHeld = 21
number NothingHeld = 22
number RunNotOver = 23
number RunOver = 24
number OrderAboveLargest = 25
number CommandNotTaken = 26

-- The fault of a reason, found by a layer, at a place.
abbrev pub fault : Reason → Layer → ℕ → Fault
fault r l p = record { reason = r; layer = l; place = p }
