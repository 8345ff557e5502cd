use Rattle.frame.proofs.Cutting.{frames_cut_back}
use Rattle.frame.proofs.theorems.frames_are_cut_back.Goals as goal

pub returns : goal.returns
returns c = frames_cut_back
