use Rattle.tangle_maps.proofs.LawLemmas.{IsSum-map, IsSum-matrix}
use Rattle.tangle_maps.proofs.laws.sums_are_maps.Goals as goal

pub returns : goal.returns
returns c = record { map = IsSum-map; matrix = IsSum-matrix }
