use Rattle.crossing_maps.proofs.CountLemmas.{counted}
use Rattle.crossing_maps.proofs.genus.genera_are_counted.Goals as goal

pub returns : goal.returns
returns c = counted
