use Rattle.rule.proofs.Reached.{narrow_exchanged}
use Rattle.engine.proofs.word.Held.obeyed.Goals as goal

pub combined-requires : goal.combined-requires
combined-requires c = rw c.exchanged.ensures (narrow_exchanged 56 c.in-PlusMinus.exchange _ c.args.self.narrow)
