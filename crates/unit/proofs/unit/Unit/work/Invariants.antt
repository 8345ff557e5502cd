use Rattle.unit.specs.Calls.{contents}
use Rattle.unit.proofs.Works.{Comes}
use Rattle.unit.proofs.unit.Unit.work.Given as goal

abbrev pub invariant-loop-done : goal.invariant-loop-done
invariant-loop-done g l = Comes g.F.Follower.first g.F.Follower.turns (contents l.initial.self) (contents l.self) l.done
