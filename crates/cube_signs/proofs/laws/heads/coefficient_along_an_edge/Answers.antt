use Rattle.cube_signs.proofs.EdgeHeads.{coefficient-along, coefficient-elsewhere}
use Rattle.cube_signs.proofs.laws.heads.coefficient_along_an_edge.Goals as goal

pub returns-clause-along : goal.returns-clause-along
returns-clause-along c = coefficient-along

pub returns-clause-elsewhere : goal.returns-clause-elsewhere
returns-clause-elsewhere c = coefficient-elsewhere
