use Rattle.std.proofs.Common.{rules}
use Rattle.follower.proofs.entries.Entries.cofactors.Goals.{then-not-is_far, else-not-is_far+then-are_alike, else-not-is_far+else-are_alike}
use Rattle.follower.proofs.entries.Entries.cofactors.Goals as goal

pub returns : goal.returns
returns c = elim c.if-not-is_far.branch [
  | then-not-is_far w ↦ search rules
  | else-not-is_far+then-are_alike w ↦ search rules
  | else-not-is_far+else-are_alike w ↦ search rules
]
