use Rattle.std.proofs.Common.{◌-◌, length}
use Rattle.engine.specs.Listed.{listed}
use Rattle.engine.proofs.Runs.{Underway}
use Rattle.engine.proofs.run.calls.advance_to_end.Given as goal

abbrev pub invariant-loop-command : goal.invariant-loop-command
invariant-loop-command g l = Underway l.pair (listed l.commands) (g.E.Engine.meaning l.engine)

abbrev pub decreases-loop-command : goal.decreases-loop-command
decreases-loop-command g l = 225 - length (listed l.commands)
