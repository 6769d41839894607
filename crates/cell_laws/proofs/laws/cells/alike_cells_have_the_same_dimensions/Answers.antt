use Rattle.cell_laws.proofs.AlikeCells.{dimension-alike}
use Rattle.cell_laws.proofs.laws.cells.alike_cells_have_the_same_dimensions.Goals as goal

pub returns : goal.returns
returns g c p to sign first second field below other_below alike = dimension-alike p to sign first second alike field below other_below
