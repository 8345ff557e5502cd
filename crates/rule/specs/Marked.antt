-- Eleven pairs with what their reduction gives, and what it means that the rule does so. (negsuc n is -(n + 1).)
use Rattle.std.specs.Prelude.{◌≡◌, ℕ, true, false, List, [], ◌∷◌, length, ℤ, pos, negsuc}
use Rattle.rule.specs.declared.command.Sign.TheVariants.{Plus, Minus}
use Rattle.rule.specs.declared.command.Command.{Command}
use Rattle.rule.specs.declared.command.Command.TheVariants.{Both, Cross, Shift, PlusMinus}
use Rattle.rule.specs.Rule.{start, after, told, Need}
use Rattle.rule.specs.Whole.{whole}
use Rattle.rule.specs.Divisor.{divisor}
use Rattle.rule.specs.Admitted.{OrderAdmitted, OperandsAdmitted}

-- A pair with the commands of its run, its greatest common divisor, its cofactors and its fraction in lowest terms.
pub record Line : Type 0 where
  pub order : ℕ
  pub a : ℤ
  pub b : ℤ
  pub commands : List Command
  pub g : ℕ
  pub u : ℤ
  pub v : ℤ
  pub numerator : ℤ
  pub denominator : ℤ

abbrev line : ℕ → ℤ → ℤ → List Command → ℕ → ℤ → ℤ → ℤ → ℤ → Line
line n a b cs g u v p q = record { order = n; a = a; b = b; commands = cs; g = g; u = u; v = v; numerator = p; denominator = q }

-- The plus-minus commands in their published letters.
abbrev P : Command
P = PlusMinus Plus false

abbrev XP : Command
XP = PlusMinus Plus true

abbrev XM : Command
XM = PlusMinus Minus true

abbrev pub marked : List Line
marked =
    line 1 (pos 1) (pos 1) (XM ∷ []) 1 (pos 0) (pos 1) (pos 1) (pos 1)
    ∷ line 1 (pos 0) (negsuc 0) (Cross ∷ []) 1 (pos 0) (negsuc 0) (pos 0) (pos 1)
    ∷ line 2 (pos 1) (pos 3) (XP ∷ Shift ∷ XP ∷ Shift ∷ XM ∷ []) 1 (pos 1) (pos 0) (pos 1) (pos 3)
    ∷ line 2 (pos 3) (negsuc 2) (XP ∷ []) 3 (pos 0) (negsuc 0) (negsuc 0) (pos 1)
    ∷ line 2 (pos 1) (negsuc 1) (Shift ∷ XP ∷ []) 1 (pos 1) (pos 0) (negsuc 0) (pos 2)
    ∷ line 2 (pos 3) (pos 2) (Shift ∷ XP ∷ Shift ∷ XM ∷ []) 1 (pos 1) (negsuc 0) (pos 3) (pos 2)
    ∷ line 3 (pos 5) (pos 2) (Shift ∷ XM ∷ Shift ∷ XP ∷ []) 1 (negsuc 0) (pos 3) (pos 5) (pos 2)
    ∷ line 3 (pos 5) (pos 4) (Shift ∷ Shift ∷ XM ∷ Shift ∷ P ∷ []) 1 (pos 1) (negsuc 0) (pos 5) (pos 4)
    ∷ line 3 (pos 0) (pos 6) (Both ∷ Cross ∷ []) 6 (pos 0) (pos 1) (pos 0) (pos 1)
    ∷ line 3 (negsuc 3) (pos 6) (Both ∷ Cross ∷ XM ∷ Shift ∷ XM ∷ []) 2 (pos 1) (pos 1) (negsuc 1) (pos 3)
    ∷ line 5 (pos 12) (pos 18) (Both ∷ Cross ∷ XP ∷ Shift ∷ XM ∷ []) 6 (negsuc 0) (pos 1) (pos 2) (pos 3)
    ∷ []

-- The pair is admitted, its run is these commands and no more, and ends with this divisor.
pub record Holds (l : Line) : Type 0 where
  pub order : OrderAdmitted l.order
  pub operands : OperandsAdmitted l.order l.a l.b
  pub need : Need whole (start l.a l.b) (length l.commands)
  pub commands : told whole (length l.commands) (start l.a l.b) ≡ l.commands
  pub divisor : divisor (after whole (length l.commands) (start l.a l.b)) ≡ l.g
