use Rattle.follower.specs.Following.{turned}
use Rattle.reduction.proofs.Told.{takes_next, taken_ok, taken_turns, turned_next}
use Rattle.reduction.proofs.reduce.follow_run.Goals as goal

pub loop-command-init : goal.loop-command-init
unfolding turned
loop-command-init g c = c.begin.ensures

pub unwrap-requires : goal.unwrap-requires
unwrap-requires g c =
    let f = g.F.Follower in
    taken_ok f.accepts f.turns _ _ _ c.follow.result c.follow.ensures
    (takes_next f.first f.accepts f.turns f.relation g.met.F.Follower.follows c.args.pair c.args.commands.now c.loop-command.command-index _ (f.table c.loop-command.follower) c.requires.run c.requires.running c.loop-command-test.true c.loop-command.invariant)

pub loop-command-preserved : goal.loop-command-preserved
loop-command-preserved g c =
    let f = g.F.Follower in
    turned_next f.turns (f.first c.args.pair) (f.table c.loop-command.follower) (f.table c.follow.new.self) c.args.commands.now c.loop-command.command-index _ c.loop-command-test.true c.loop-command.invariant
    (taken_turns f.accepts f.turns _ _ _ c.follow.result c.unwrap.result c.follow.ensures c.unwrap.ensures)
