use Rattle.follower.proofs.Within.{within_halved}
use Rattle.follower.proofs.entries.Entries.halved_pair.Goals as goal

pub invariant_of-result-clause-small_pair : goal.invariant_of-result-clause-small_pair
invariant_of-result-clause-small_pair c = rw c.halved.ensures (within_halved _ _ c.args.self.small_pair)
