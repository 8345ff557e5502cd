-- What an engine holds, and what its calls do to that.
use Rattle.std.specs.Prelude.{◌≡◌, ℕ, ◌<◌, ◌≤◌, Bool, true, false, ℤ, pos, Ok, Err, Result}
use Rattle.rule.specs.Rule.{State, command, next}
use Rattle.rule.specs.Whole.{is_zero, whole}
use Rattle.rule.specs.Pairs.{order_of, start_of}
use Rattle.rule.specs.Refusal.{fault}
use Rattle.rule.specs.declared.command.Command.{Command}
use Rattle.rule.specs.declared.fault.Fault.{Fault}
use Rattle.rule.specs.declared.fault.Layer.TheVariants.{Engine}
use Rattle.rule.specs.declared.fault.Reason.TheVariants.{NothingHeld, RunOver, OrderAboveLargest}
use Rattle.rule.specs.declared.pair.AdmittedPair.{AdmittedPair}

-- Nothing, or an order and the state where the rule stands.
pub data Meaning : Type 0 where
  idle : Meaning
  held : ℕ → State ℤ → Meaning

-- Begin sets the rule's start, or refuses an order above the engine's largest and leaves what was held.
abbrev pub Begins : ℕ → Meaning → AdmittedPair → Result (Unit {0}) Fault → Meaning → Type 0
Begins largest m p (Ok _) m' = (order_of p ≤ largest) × (m' ≡ held (order_of p) (start_of p))
Begins largest m p (Err f) m' = (largest < order_of p) × (f ≡ fault OrderAboveLargest Engine 0) × (m' ≡ m)

-- Advance does and tells the one command that the state fixes; idle or with b = 0 it refuses and leaves what was held.
abbrev pub Advances : Meaning → Result Command Fault → Meaning → Type 0
Advances idle r m' = (r ≡ Err (fault NothingHeld Engine 0)) × (m' ≡ idle)
Advances (held n s) (Ok c) m' = (is_zero s.b ≡ false) × (c ≡ command whole s) × (m' ≡ held n (next whole s))
Advances (held n s) (Err f) m' = (is_zero s.b ≡ true) × (f ≡ fault RunOver Engine 0) × (m' ≡ held n s)

-- The questions. Of an idle engine b is not 0 and the numbers are 0.
abbrev pub is_idle : Meaning → Bool
is_idle idle = true
is_idle (held n s) = false

abbrev pub is_over : Meaning → Bool
is_over idle = false
is_over (held n s) = is_zero s.b

abbrev pub a_of : Meaning → ℤ
a_of idle = pos 0
a_of (held n s) = s.a

abbrev pub delta_of : Meaning → ℤ
delta_of idle = pos 0
delta_of (held n s) = s.δ

abbrev pub twos_of : Meaning → ℕ
twos_of idle = 0
twos_of (held n s) = s.twos

abbrev pub count_of : Meaning → ℕ
count_of idle = 0
count_of (held n s) = s.count
