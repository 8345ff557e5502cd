use Rattle.frame.proofs.Cutting.{pieces_of_input}
use Rattle.frame.proofs.theorems.inputs_have_pieces.Goals as goal

pub returns : goal.returns
returns c = pieces_of_input
