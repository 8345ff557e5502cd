use Rattle.frame.proofs.Cutting.{frame_cut_off}
use Rattle.frame.proofs.theorems.frames_are_cut_off.Goals as goal

pub returns : goal.returns
returns c = frame_cut_off
