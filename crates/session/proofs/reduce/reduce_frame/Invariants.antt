use Rattle.std.proofs.Common.{◌-◌}
use Rattle.unit.specs.Calls.{place}
use Rattle.session.proofs.Whole.{steps, Pending}
use Rattle.session.proofs.reduce.reduce_frame.Given as goal

abbrev pub invariant-loop : goal.invariant-loop
invariant-loop g l = Pending l.frame l.initial.unit.stint l.unit

abbrev pub decreases-loop : goal.decreases-loop
decreases-loop g l = 225 - steps (place l.unit)
