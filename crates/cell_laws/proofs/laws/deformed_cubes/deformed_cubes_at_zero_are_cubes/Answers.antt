use Rattle.cell_laws.proofs.DeformedCells.{cube-plain}
use Rattle.cell_laws.proofs.laws.deformed_cubes.deformed_cubes_at_zero_are_cubes.Goals as goal

pub returns : goal.returns
returns c = cube-plain
