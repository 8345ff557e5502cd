-- What a whole run of an engine gives.
use Rattle.std.specs.Prelude.{◌≡◌, ℕ, ◌+◌, ◌*◌, ◌<◌, ◌≤◌, length, ℤ, Ok, Err, Result}
use Rattle.rule.specs.Rule.{State, after, told, Need}
use Rattle.rule.specs.Whole.{whole}
use Rattle.rule.specs.Divisor.{Greatest, divisor}
use Rattle.rule.specs.Refusal.{fault}
use Rattle.rule.specs.declared.fault.Fault.{Fault}
use Rattle.rule.specs.declared.fault.Layer.TheVariants.{Engine}
use Rattle.rule.specs.declared.fault.Reason.TheVariants.{OrderAboveLargest}
use Rattle.rule.specs.declared.pair.AdmittedPair.{AdmittedPair}
use Rattle.rule.specs.Pairs.{order_of, start_of}
use Rattle.engine.specs.Listed.{listed}
use Rattle.engine.specs.Meaning.{Meaning, held}
use Rattle.engine.specs.declared.run.Run.{Run}

-- How many commands were told, and where the rule stands after them.
abbrev pub spent : Run → ℕ
spent r = length (listed r.commands)

abbrev pub ending : AdmittedPair → Run → State ℤ
ending p r = after whole (spent r) (start_of p)

-- The run of the pair was told from its start to its end, the engine stands there, and what it gives is right.
pub record Finished (p : AdmittedPair) (r : Run) (m : Meaning) : Type 0 where
  pub pair : r.pair ≡ p
  pub told : listed r.commands ≡ told whole (spent r) (start_of p)
  pub need : Need whole (start_of p) (spent r)
  pub bound : spent r ≤ 4 * order_of p + 1
  pub stands : m ≡ held (order_of p) (ending p r)
  pub twos : r.twos ≡ (ending p r).twos
  pub gcd : r.gcd ≡ divisor (ending p r)
  pub greatest : Greatest r.gcd p.a p.b

-- Either that, or the order is above the engine's largest, and nothing moved.
abbrev pub Runs : ℕ → Meaning → AdmittedPair → Result Run Fault → Meaning → Type 0
Runs largest m p (Ok r) m' = (order_of p ≤ largest) × Finished p r m'
Runs largest m p (Err f) m' = (largest < order_of p) × (f ≡ fault OrderAboveLargest Engine 0) × (m' ≡ m)
