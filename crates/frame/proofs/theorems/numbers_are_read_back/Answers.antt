use Rattle.frame.proofs.RoundTrips.{number_read_back}
use Rattle.frame.proofs.theorems.numbers_are_read_back.Goals as goal

pub returns : goal.returns
returns c = number_read_back
