use Rattle.follower.proofs.Readout.{cofactors_right}
use Rattle.follower.proofs.theorems.cofactors_are_right.Goals as goal

pub returns : goal.returns
returns c = cofactors_right
