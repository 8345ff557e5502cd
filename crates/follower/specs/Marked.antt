-- What the rule and the followers do to the marked pairs.
use Rattle.std.specs.Prelude.{◌≡◌, length, Some}
use Rattle.std.specs.List.{AllByRecursion}
use Rattle.rule.specs.Marked.{Line, marked, Holds}
use Rattle.rule.specs.Pairs.{order_of}
use Rattle.rule.specs.Rule.{start, after}
use Rattle.rule.specs.Whole.{whole}
use Rattle.rule.specs.declared.pair.AdmittedPair.{AdmittedPair}
use Rattle.follower.specs.Following.{turned}
use Rattle.follower.specs.Cofactor.{cofactor_first, cofactor_turns}
use Rattle.follower.specs.Fraction.{fraction_first, fraction_turns}
use Rattle.follower.specs.FractionTable.{read_out}
use Rattle.follower.specs.Readout.{cofactors_at}

-- p is the pair of this line.
pub record OfLine (l : Line) (p : AdmittedPair) : Type 0 where
  pub order : order_of p ≡ l.order
  pub a : p.a ≡ l.a
  pub b : p.b ≡ l.b

-- The rule does what the line says, and the followers, told its commands, end with its cofactors and its fraction.
pub record AsMarked (l : Line) : Type 0 where
  pub rule : Holds l
  pub cofactors : (p : AdmittedPair) → OfLine l p → cofactors_at (after whole (length l.commands) (start l.a l.b)).a (turned cofactor_turns (cofactor_first p) l.commands) ≡ Some (record { u = l.u; v = l.v })
  pub fraction : (p : AdmittedPair) → OfLine l p → read_out (turned fraction_turns (fraction_first p) l.commands) ≡ Some (record { numerator = l.numerator; denominator = l.denominator })

abbrev pub MarkedPairs : Type 0
MarkedPairs = AllByRecursion AsMarked marked
