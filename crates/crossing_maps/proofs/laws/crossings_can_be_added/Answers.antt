use Rattle.crossing_maps.proofs.PlaceLaws.{can-add}
use Rattle.crossing_maps.proofs.laws.crossings_can_be_added.Goals as goal

pub returns : goal.returns
returns c = can-add
