use Rattle.frame.proofs.RoundTrips.{pair_read_back}
use Rattle.frame.proofs.theorems.pairs_are_read_back.Goals as goal

pub returns : goal.returns
returns c = pair_read_back
