use Rattle.std.proofs.Common.{refl}
use Rattle.cell.specs.Links.{links}
use Rattle.cell_engine.proofs.bitwise.Held.sent.Goals as goal

pub returns-clause-cell : goal.returns-clause-cell
unfolding links
returns-clause-cell c = rw (c.take.ensures.cell, c.new-cell.ensures, c.link.ensures) refl
