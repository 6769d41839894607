use Rattle.cell_laws.proofs.CubeCells.{AreComplex-cube}
use Rattle.cell_laws.proofs.laws.cubes.cubes_have_the_dimensions.Goals as goal

pub returns-clause-complex : goal.returns-clause-complex
returns-clause-complex c = AreComplex-cube
