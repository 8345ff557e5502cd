use Rattle.follower.proofs.Within.{within_summed}
use Rattle.follower.proofs.entries.calls.EntriesTable.turned.Goals as goal

pub settled-requires-in-PlusMinus : goal.settled-requires-in-PlusMinus
settled-requires-in-PlusMinus c = let r = c.swapped-swapped.result in rw c.summed.ensures (within_summed _ r.first r.second r.small_first r.small_second)
