use Rattle.tests.proofs.euclid.euclid.Given as goal

abbrev pub decreases-loop-y : goal.decreases-loop-y
decreases-loop-y l = l.y
