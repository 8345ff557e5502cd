use Rattle.cell.proofs.Cells.{cell_obeys}
use Rattle.cell.proofs.theorems.cells_obey.Goals as goal

pub returns : goal.returns
returns c = cell_obeys
