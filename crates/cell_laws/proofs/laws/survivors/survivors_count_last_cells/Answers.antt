use Rattle.cell_laws.proofs.LastSurvivors.{survivors-last}
use Rattle.cell_laws.proofs.laws.survivors.survivors_count_last_cells.Goals as goal

pub returns : goal.returns
returns g c p cells field below none i t = survivors-last p cells field below none i t
