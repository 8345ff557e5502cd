use Rattle.frame.proofs.RoundTrips.{frame_unique}
use Rattle.frame.proofs.theorems.frames_are_unique.Goals as goal

pub returns : goal.returns
returns c = frame_unique
