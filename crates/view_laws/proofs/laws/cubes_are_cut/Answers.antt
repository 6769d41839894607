use Rattle.view_laws.proofs.Cut.{complex-cut, dimension-cut, filtered-cut, survivors-cut}
use Rattle.view_laws.proofs.laws.cubes_are_cut.Goals as goal

pub returns : goal.returns
returns c = record { survivors = survivors-cut; filtered = filtered-cut; dimensions = dimension-cut; complex = complex-cut }
