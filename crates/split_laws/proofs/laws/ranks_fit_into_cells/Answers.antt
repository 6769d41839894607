use Rattle.split_laws.proofs.RanksFit.{ranks-fit}
use Rattle.split_laws.proofs.laws.ranks_fit_into_cells.Goals as goal

pub returns : goal.returns
returns g c = ranks-fit
