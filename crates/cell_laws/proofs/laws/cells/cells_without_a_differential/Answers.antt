use Rattle.cell_laws.proofs.LastCells.{dimension-nothing}
use Rattle.cell_laws.proofs.laws.cells.cells_without_a_differential.Goals as goal

pub returns : goal.returns
returns g c p cells field below none i j = dimension-nothing p cells field below none i j
