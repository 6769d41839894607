use Rattle.tangle_maps.proofs.PairedLemmas.{paired, paired-among, paired-placed}
use Rattle.tangle_maps.proofs.laws.partners_pair_arcs.Goals as goal

pub returns : goal.returns
returns c = record { pairing = paired; among = paired-among; placed = paired-placed }
