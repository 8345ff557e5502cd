use Rattle.frame.proofs.Cutting.{pieces_whole}
use Rattle.frame.proofs.theorems.pieces_are_whole.Goals as goal

pub returns : goal.returns
returns c = pieces_whole
