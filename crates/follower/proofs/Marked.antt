-- The followers do to the marked pairs what stands beside them, by computing.
use Rattle.std.proofs.Common.{◌≡◌, length, pos, Some, Option, refl, ap, ◌∙◌}
use Rattle.rule.specs.Marked.{Line, Holds}
use Rattle.rule.specs.Rule.{start, command, next, after}
use Rattle.rule.specs.Whole.{odd, half, fourfold, whole}
use Rattle.rule.specs.declared.pair.AdmittedPair.{AdmittedPair}
use Rattle.rule.proofs.Marked.{marked_hold}
use Rattle.follower.specs.Following.{turned}
use Rattle.follower.specs.Cofactor.{CofactorRows, cofactor_first, cofactor_turns}
use Rattle.follower.specs.Fraction.{FractionRows, fraction_first, fraction_turns, row}
use Rattle.follower.specs.FractionTable.{read_out}
use Rattle.follower.specs.Marked.{OfLine, AsMarked, MarkedPairs}
use Rattle.follower.specs.Readout.{cofactors_at}

-- the first tables of a line's pair
cofactor_start : Line → Option CofactorRows
cofactor_start l = Some (record { n = l.order; x = l.a; y = l.b; c = pos 1; d = pos 0; e = pos 0; f = pos 1 })

fraction_start : Line → Option FractionRows
fraction_start l = Some (record { order = l.order; first = row 1 0; second = row 0 1 })

cofactor_start_lem : (l : Line) (p : AdmittedPair) → OfLine l p → cofactor_first p ≡ cofactor_start l
unfolding cofactor_start
cofactor_start_lem l p h = λ i. Some (record { n = h.order i; x = h.a i; y = h.b i; c = pos 1; d = pos 0; e = pos 0; f = pos 1 })

fraction_start_lem : (l : Line) (p : AdmittedPair) → OfLine l p → fraction_first p ≡ fraction_start l
unfolding fraction_start
fraction_start_lem l p h = λ i. Some (record { order = h.order i; first = row 1 0; second = row 0 1 })

as_marked : (l : Line) → Holds l
    → cofactors_at (after whole (length l.commands) (start l.a l.b)).a (turned cofactor_turns (cofactor_start l) l.commands) ≡ Some (record { u = l.u; v = l.v })
    → read_out (turned fraction_turns (fraction_start l) l.commands) ≡ Some (record { numerator = l.numerator; denominator = l.denominator })
    → AsMarked l
as_marked l h c f =
    record {
      rule = h;
      cofactors = λ p o. ap (λ t. cofactors_at (after whole (length l.commands) (start l.a l.b)).a (turned cofactor_turns t l.commands)) (cofactor_start_lem l p o) ∙ c;
      fraction = λ p o. ap (λ t. read_out (turned fraction_turns t l.commands)) (fraction_start_lem l p o) ∙ f;
    }

pub marked_pairs : MarkedPairs
unfolding odd half fourfold command next after turned cofactor_start fraction_start
marked_pairs =
    let h = marked_hold in (
      as_marked _ h.0 refl refl,
      (
        as_marked _ h.1.0 refl refl,
        (
          as_marked _ h.1.1.0 refl refl,
          (
            as_marked _ h.1.1.1.0 refl refl,
            (
              as_marked _ h.1.1.1.1.0 refl refl,
              (
                as_marked _ h.1.1.1.1.1.0 refl refl,
                (
                  as_marked _ h.1.1.1.1.1.1.0 refl refl,
                  (
                    as_marked _ h.1.1.1.1.1.1.1.0 refl refl,
                    (
                      as_marked _ h.1.1.1.1.1.1.1.1.0 refl refl,
                      (
                        as_marked _ h.1.1.1.1.1.1.1.1.1.0 refl refl,
                        (
                          as_marked _ h.1.1.1.1.1.1.1.1.1.1.0 refl refl,
                          tt,
                        ),
                      ),
                    ),
                  ),
                ),
              ),
            ),
          ),
        ),
      ),
    )
