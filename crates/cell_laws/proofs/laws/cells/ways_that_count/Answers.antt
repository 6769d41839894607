use Rattle.cell_laws.proofs.LastCells.{eliminated-kept}
use Rattle.cell_laws.proofs.laws.cells.ways_that_count.Goals as goal

pub returns : goal.returns
returns g c = eliminated-kept
