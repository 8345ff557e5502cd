use Rattle.std.proofs.Common.{◌≡◌, ◌≤◌, arith, subst, ◌^◌, to_z, w64}
use Rattle.cell_engine.proofs.Passing.{Within, Got, within_more, got_first, got_more, got_last, added_fits, added, less, first_word, within_first, pow_more}
use Rattle.cell_engine.proofs.passage.Passage.read.Goals as goal

pub loop-place-init : goal.loop-place-init
loop-place-init c = rw (first_word c.args.first.a c.from-a.ensures, first_word c.args.first.b c.from-b.ensures) (within_first c.args.first.a, within_first c.args.first.b, got_first)

pub overflow_add-a : goal.overflow_add-a
overflow_add-a c = added_fits c.send-link.result.a c.loop-place.place (omega (arith, c.loop-place-test.true, c.requires)) c.loop-place.invariant.0 c.placed-a.ensures

pub overflow_add-b : goal.overflow_add-b
overflow_add-b c = added_fits c.send-link.result.b c.loop-place.place (omega (arith, c.loop-place-test.true, c.requires)) c.loop-place.invariant.1 c.placed-b.ensures

pub loop-place-preserved : goal.loop-place-preserved
loop-place-preserved c =
    let i = c.loop-place.invariant in
    let k = c.loop-place.place in
    let l = c.send-link.result in
    let m : k ≤ 48 = omega (arith, c.loop-place-test.true, c.requires) in
    rw (pow_more k, added l.a k m i.0 c.placed-a.ensures, added l.b k m i.1 c.placed-b.ensures, c.send-link.ensures.passage)
    (within_more l.a _ _ i.0, within_more l.b _ _ i.1, λ x y s. got_more l c.send-link.ensures.given (i.2 x y s))

pub returns : goal.returns
returns c x y s =
    let n = c.args.last in
    let l = c.send-signs.result in
    let e : c.loop-place.place ≡ n = omega (arith, c.loop-place-test.false, c.loop-place.auto.place-end, c.requires) in
    let i = subst (λ k. Within (2 ^ k) (to_z w64 c.loop-place.a-bits) × Within (2 ^ k) (to_z w64 c.loop-place.b-bits) × Got c.loop-place.self (2 ^ k) (to_z w64 c.loop-place.a-bits) (to_z w64 c.loop-place.b-bits) x y) e (c.loop-place.invariant.0, c.loop-place.invariant.1, c.loop-place.invariant.2 x y s) in
    rw (less l.a n c.requires.1 i.0 c.placed.ensures, less l.b n c.requires.1 i.1 c.placed-2.ensures) (got_last l c.send-signs.ensures.given i.2 i.0 i.1 s.below_a s.below_b)
