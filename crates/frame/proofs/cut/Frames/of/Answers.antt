use Rattle.frame.proofs.Cutting.{given_pieces}
use Rattle.frame.proofs.cut.Frames.of.Goals as goal

pub returns-clause-pieces : goal.returns-clause-pieces
returns-clause-pieces c = given_pieces _
