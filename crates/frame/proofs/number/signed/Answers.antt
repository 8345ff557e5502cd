use Rattle.std.proofs.Common.{◌-◌, ◌<◌, length, get_or, take, drop, sym, ap, ◌∙◌, arith, w64, SFits, rules}
use Rattle.std.proofs.lemmas.Int.{ints, to_z-of_z}
use Rattle.std.proofs.lemmas.List.{at_drop_more, at_drop_all, length-take, length-drop, nil_from_length}
use Rattle.frame.specs.Numbers.{signed_from, signed_value}
use Rattle.frame.proofs.Numbers.{seven_more_fit, appended_low, appended_high, signed_value-first}
use Rattle.frame.proofs.number.signed.Goals as goal

pub returns-in_default : goal.returns-in_default
unfolding signed_value
returns-in_default c = ap signed_value (sym (nil_from_length c.args.bytes.now (search rules)))

pub appended-value-requires : goal.appended-value-requires
appended-value-requires c =
    let n : c.loop-x.x-index < 7 = omega (arith, simp (length-take, length-drop) at c.loop-x-test.true) in
    let k = seven_more_fit c.loop-x.x-index n in
    (omega (arith, ints, k), omega (arith, ints, k))

pub loop-x-preserved : goal.loop-x-preserved
unfolding signed_from
loop-x-preserved c =
    let s = c.args.bytes.now in
    let i = c.loop-x.x-index in
    let xs = take (length s - 1) (drop 1 s) in
    let x : get_or xs i 0 < 256 = search rules in
    let r : SFits w64 c.appended-value.result = search rules in
    rw (to_z-of_z w64 c.appended-value.result r, c.appended-value.ensures)
    (appended_low i _ _ x c.loop-x.invariant.0, appended_high i _ _ x c.loop-x.invariant.1, sym (at_drop_more (signed_from _) xs i 0 c.loop-x-test.true) ∙ c.loop-x.invariant.2)

pub returns : goal.returns
unfolding signed_from
returns c =
    let s = c.args.bytes.now in
    let xs = take (length s - 1) (drop 1 s) in
    let r : SFits w64 c.sign_byte-value.result = search rules in
    let e = to_z-of_z w64 c.sign_byte-value.result r ∙ c.sign_byte-value.ensures in
    sym (at_drop_all (signed_from _) xs c.loop-x.x-index c.loop-x-test.false) ∙ c.loop-x.invariant.2 ∙ ap (λ z. signed_from z xs) e ∙ sym (signed_value-first s (search rules))
