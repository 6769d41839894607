use Rattle.tangle_maps.proofs.PairingLemmas.{ArePartners-none}
use Rattle.tangle_maps.proofs.pairing.Pairing.none.Goals as goal

pub invariant_of-result : goal.invariant_of-result
invariant_of-result c = record { paired = ArePartners-none }
