use Rattle.std.proofs.Common.{◌≡◌, take}
use Rattle.follower.specs.Following.{turned}
use Rattle.reduction.proofs.reduce.follow_run.Given as goal

abbrev pub invariant-loop-command : goal.invariant-loop-command
invariant-loop-command g l =
    let f = g.F.Follower in
    f.table l.follower ≡ turned f.turns (f.first l.fn.pair) (take l.command-index l.commands)
