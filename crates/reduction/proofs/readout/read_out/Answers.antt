use Rattle.std.proofs.Common.{sym, ◌∙◌, w64, SFits, to_z, of_z, rules, arith}
use Rattle.std.proofs.lemmas.Int.{to_z-of_z}
use Rattle.reduction.proofs.Readouts.{fitting_fits, result_of, ended}
use Rattle.reduction.proofs.readout.read_out.Goals as goal

pub returns-in_err-g : goal.returns-in_err-g
returns-in_err-g g c = λ k along.
    let f : SFits w64 c.a-a.result = search rules in
    let e = ended c.args.pair k _ _ _ along (sym c.if-not-is_over.ensures) in
    grind (arith, to_z-of_z w64 c.a-a.result f)

pub returns-in_err-cofactors : goal.returns-in_err-cofactors
returns-in_err-cofactors g c = λ k along.
    let f : SFits w64 c.a-a.result = search rules in
    let e = ended c.args.pair k _ _ _ along (sym c.if-not-is_over.ensures) in
    grind (arith, to_z-of_z w64 c.a-a.result f)

pub returns-in_err-ratio : goal.returns-in_err-ratio
returns-in_err-ratio g c = λ k along.
    let e = ended c.args.pair k _ _ _ along (sym c.if-not-is_over.ensures) in
    grind arith

pub returns-then-not-fit : goal.returns-then-not-fit
returns-then-not-fit g c = λ k along.
    let f : SFits w64 c.a-a.result = search rules in
    let e = ended c.args.pair k _ _ _ along (sym c.if-not-is_over.ensures) in
    grind (arith, to_z-of_z w64 c.a-a.result f)

pub invariant_of-result : goal.invariant_of-result
invariant_of-result g c =
    let fu : SFits w64 c.in_ok-cofactors.cofactors.u = search rules in
    let fv : SFits w64 c.in_ok-cofactors.cofactors.v = search rules in
    let fn : SFits w64 c.in_ok-ratio.ratio.numerator = search rules in
    let fd : SFits w64 c.in_ok-ratio.ratio.denominator = search rules in
    let fit = fitting_fits c.order.result.value c.in_ok-g.g c.in_ok-cofactors.cofactors c.in_ok-ratio.ratio (sym c.if-not-fit.ensures) in
    simp (to_z-of_z, c.order-2.ensures) (record { fit = simp c.order.ensures at fit })

pub returns : goal.returns
returns g c = λ k along.
    let f : SFits w64 c.a-a.result = search rules in
    let fu : SFits w64 c.in_ok-cofactors.cofactors.u = search rules in
    let fv : SFits w64 c.in_ok-cofactors.cofactors.v = search rules in
    let fn : SFits w64 c.in_ok-ratio.ratio.numerator = search rules in
    let fd : SFits w64 c.in_ok-ratio.ratio.denominator = search rules in
    let e = ended c.args.pair k _ _ _ along (sym c.if-not-is_over.ensures) in
    result_of c.args.pair k _ _ _ e (to_z w64 (of_z w64 c.a-a.result)) c.in_ok-cofactors.cofactors c.in_ok-ratio.ratio _ (to_z-of_z w64 c.a-a.result f ∙ c.a-a.ensures) (sym c.scaled.ensures ∙ c.in_ok-g.was) (sym c.cofactors.ensures ∙ c.in_ok-cofactors.was) (sym c.read_out.ensures ∙ c.in_ok-ratio.was) c.order-2.ensures c.count.ensures c.twos-twos.ensures (simp to_z-of_z) (simp to_z-of_z)
