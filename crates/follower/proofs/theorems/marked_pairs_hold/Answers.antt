use Rattle.follower.proofs.Marked.{marked_pairs}
use Rattle.follower.proofs.theorems.marked_pairs_hold.Goals as goal

pub returns : goal.returns
returns c = marked_pairs
