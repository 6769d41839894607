use Rattle.cell_laws.proofs.FilteredCubes.{AreFiltered-cube}
use Rattle.cell_laws.proofs.laws.deformed_cubes.deformed_cubes_are_filtered.Goals as goal

pub returns : goal.returns
returns c = AreFiltered-cube
