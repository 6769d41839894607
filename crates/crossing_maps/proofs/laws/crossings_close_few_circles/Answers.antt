use Rattle.crossing_maps.proofs.FewClosed.{few-closed}
use Rattle.crossing_maps.proofs.laws.crossings_close_few_circles.Goals as goal

pub returns : goal.returns
returns c = few-closed
