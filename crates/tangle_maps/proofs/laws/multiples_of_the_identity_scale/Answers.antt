use Rattle.tangle_maps.proofs.Multiples.{multiples}
use Rattle.tangle_maps.proofs.laws.multiples_of_the_identity_scale.Goals as goal

pub returns : goal.returns
returns c points m o number second placed pairing first third =
    multiples points m o number second (record { placed = placed; pairing = pairing; first = first; third = third })
