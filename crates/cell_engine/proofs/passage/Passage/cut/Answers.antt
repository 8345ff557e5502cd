use Rattle.std.proofs.Common.{rules}
use Rattle.cell.specs.Bits.{bit}
use Rattle.cell_engine.proofs.passage.Passage.cut.Goals as goal

pub returns-clause-link : goal.returns-clause-link
unfolding bit
returns-clause-link c = rw (c.is_odd.ensures, c.is_odd-2.ensures) (search rules)
