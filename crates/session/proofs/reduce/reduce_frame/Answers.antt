use Rattle.std.proofs.Common.{◌≡◌, None, rules}
use Rattle.session.proofs.Whole.{pending_load, pending_more, over_then, reduces_cleared}
use Rattle.session.proofs.reduce.reduce_frame.Goals as goal

pub loop-init : goal.loop-init
loop-init g c =
    let e : c.args.unit.now.pair ≡ None = search rules in
    (pending_load c.args.frame.now c.args.unit.now _ c.in_ok-load.field-0 e c.in_ok-load.ensures).0

pub loop-smaller : goal.loop-smaller
loop-smaller g c = (pending_more c.args.frame.now c.loop.unit _ _ c.most.result c.most.ensures c.loop.invariant c.in_ok-work.field-0 c.if-not-branch.true c.in_ok-work.ensures).1

pub loop-preserved : goal.loop-preserved
loop-preserved g c = (pending_more c.args.frame.now c.loop.unit _ _ c.most.result c.most.ensures c.loop.invariant c.in_ok-work.field-0 c.if-not-branch.true c.in_ok-work.ensures).0

pub returns : goal.returns
returns g c =
    let e : c.args.unit.now.pair ≡ None = search rules in
    let loaded = pending_load c.args.frame.now c.args.unit.now _ c.in_ok-load.field-0 e c.in_ok-load.ensures in
    let o = over_then c.args.frame.now c.loop.unit _ _ c.most.result c.most.ensures c.loop.invariant c.in_ok-work.field-0 c.if-not-branch.false c.in_ok-work.ensures in
    reduces_cleared _ _ _ c.args.frame.now _ _ c.collect-length.result _ c.in_ok-clear.field-0 e loaded.1 o c.collect-length.ensures c.in_ok-clear.ensures
