use Rattle.crossing_maps.proofs.PairedPartners.{partners-paired}
use Rattle.crossing_maps.proofs.laws.partners_are_paired.Goals as goal

pub returns : goal.returns
returns c = partners-paired
