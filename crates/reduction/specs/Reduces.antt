-- What the reduction of a pair gives.
use Rattle.std.specs.Prelude.{◌≡◌, ℕ, Some, Ok, Err, Result}
use Rattle.rule.specs.declared.fault.Fault.{Fault}
use Rattle.rule.specs.declared.pair.AdmittedPair.{AdmittedPair}
use Rattle.frame.specs.declared.reduction.Reduction.{Reduction}
use Rattle.engine.specs.Meaning.{Meaning}
use Rattle.engine.specs.Runs.{spent, ending, Runs}
use Rattle.engine.specs.declared.run.Run.{Run}
use Rattle.follower.specs.Following.{table_at}
use Rattle.follower.specs.Cofactor.{cofactor_first, cofactor_turns}
use Rattle.follower.specs.Fraction.{fraction_first, fraction_turns, Reduced}
use Rattle.follower.specs.FractionTable.{read_out}
use Rattle.follower.specs.Readout.{cofactors_at, Bezout}

-- The numbers are what the run and the followers end with, and they are right: u and v are cofactors, and the fraction is a/b in
-- lowest terms.
pub record Right (p : AdmittedPair) (r : Run) (n : Reduction) : Type 0 where
  pub order : n.order ≡ p.order
  pub count : n.count ≡ spent r
  pub twos : n.twos ≡ r.twos
  pub g : n.g ≡ r.gcd
  pub cofactors : Some (record { u = n.u; v = n.v }) ≡ cofactors_at (ending p r).a (table_at cofactor_first cofactor_turns p (spent r))
  pub ratio : Some (record { numerator = n.numerator; denominator = n.denominator }) ≡ read_out (table_at fraction_first fraction_turns p (spent r))
  pub bezout : Bezout p.a p.b n.g n.u n.v
  pub reduced : Reduced p.a p.b n.numerator n.denominator

-- What a whole run of the engine gives, and with it a right reduction.
abbrev pub Reduces : ℕ → Meaning → AdmittedPair → Result (Run × Reduction) Fault → Meaning → Type 0
Reduces largest m p (Ok x) m' = Runs largest m p (Ok x.0) m' × Right p x.0 x.1
Reduces largest m p (Err f) m' = Runs largest m p (Err f) m'
