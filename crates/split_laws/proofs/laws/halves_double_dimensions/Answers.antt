use Rattle.split_laws.proofs.Halves.{dimension-halves, inverses-two}
use Rattle.split_laws.proofs.laws.halves_double_dimensions.Goals as goal

pub returns : goal.returns
returns g c cells lower down up turns complex halves = dimension-halves cells lower down up turns inverses-two complex halves
