use Rattle.cell_laws.proofs.AlikeComplexes.{complex-alike}
use Rattle.cell_laws.proofs.laws.cells.alike_cells_are_complexes_together.Goals as goal

pub returns : goal.returns
returns g c p to sign first second below alike complex = complex-alike p to sign first second alike below complex
