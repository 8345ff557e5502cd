-- What the reduction of a pair is, and what is right of it.
use Rattle.std.specs.Prelude.{◌≡◌, ℕ, ◌*◌, ◌^◌, Bool, true, false, cond, ◌&&◌, [], ◌∷◌, ℤ, Some, None, Option, nat_lt, unsigned_abs}
use Rattle.std.specs.List.{list_all}
use Rattle.rule.specs.Divisor.{divisor, Greatest}
use Rattle.rule.specs.Pairs.{order_of, start_of}
use Rattle.rule.specs.Rule.{State, after, Running}
use Rattle.rule.specs.Whole.{is_zero, whole}
use Rattle.rule.specs.declared.command.Command.{Command}
use Rattle.rule.specs.declared.pair.AdmittedPair.{AdmittedPair}
use Rattle.frame.specs.declared.reduction.Reduction.{Reduction}
use Rattle.engine.specs.Meaning.{Meaning, held}
use Rattle.follower.specs.Following.{table_at}
use Rattle.follower.specs.Cofactor.{cofactor_first, cofactor_turns}
use Rattle.follower.specs.Fraction.{fraction_first, fraction_turns, Reduced}
use Rattle.follower.specs.FractionTable.{read_out}
use Rattle.follower.specs.Readout.{cofactors_at, Bezout}
use Rattle.follower.specs.declared.entries.Cofactors.{Cofactors}
use Rattle.follower.specs.declared.fraction.Ratio.{Ratio}

-- Where the rule stands after k commands of the run of a pair.
abbrev pub state_at : AdmittedPair → ℕ → State ℤ
state_at p k = after whole k (start_of p)

-- The numbers are those that the rule and the followers end with after the k commands of the run of a pair.
pub record ResultOf (p : AdmittedPair) (k : ℕ) (n : Reduction) : Type 0 where
  pub order : n.order ≡ p.order
  pub count : n.count ≡ k
  pub twos : n.twos ≡ (state_at p k).twos
  pub g : n.g ≡ divisor (state_at p k)
  pub cofactors : Some (record { u = n.u; v = n.v }) ≡ cofactors_at (state_at p k).a (table_at cofactor_first cofactor_turns p k)
  pub ratio : Some (record { numerator = n.numerator; denominator = n.denominator }) ≡ read_out (table_at fraction_first fraction_turns p k)

-- g is the greatest common divisor, u and v are its cofactors, and the fraction is a/b in lowest terms.
pub record RightResult (p : AdmittedPair) (n : Reduction) : Type 0 where
  pub greatest : Greatest n.g p.a p.b
  pub bezout : Bezout p.a p.b n.g n.u n.v
  pub reduced : Reduced p.a p.b n.numerator n.denominator

-- An engine that means m and followers with table t have come k commands along the run of p, and b was not 0 before any of these.
pub record Along {T : Type 0} (first : AdmittedPair → T) (turns : T → Command → T) (p : AdmittedPair) (k : ℕ) (m : Meaning) (t : T) : Type 0 where
  pub running : Running whole (start_of p) k
  pub engine : m ≡ held (order_of p) (state_at p k)
  pub table : t ≡ table_at first turns p k

-- There is a result where b is 0, and it is right; elsewhere there is none.
abbrev pub ReadsOut : AdmittedPair → ℕ → Option Reduction → Type 0
ReadsOut p k (Some n) = (is_zero (state_at p k).b ≡ true) × ResultOf p k n × RightResult p n
ReadsOut p k None = is_zero (state_at p k).b ≡ false

-- Whether each number of a result is below 2^n in size.
abbrev pub fitting : ℕ → ℕ → Cofactors → Ratio → Bool
fitting n g c q = list_all (λ x. nat_lt x (2 ^ n)) (g ∷ unsigned_abs c.u ∷ unsigned_abs c.v ∷ unsigned_abs q.numerator ∷ unsigned_abs q.denominator ∷ [])
