use Rattle.follower.specs.Fractions.{fraction_reduced}
use Rattle.follower.proofs.theorems.fraction_is_reduced.Goals as goal

pub returns : goal.returns
returns c = fraction_reduced
