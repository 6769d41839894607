use Rattle.kh_types.proofs.CancelLemmas.{degrees-cancel, sizes-cancel, places-cancel, dead-cancel}
use Rattle.kh_types.proofs.laws.complexes.cancellations_keep_sizes_and_dead_places.Goals as goal

pub returns-clause-degrees : goal.returns-clause-degrees
returns-clause-degrees c = degrees-cancel

pub returns-clause-sizes : goal.returns-clause-sizes
returns-clause-sizes c = sizes-cancel

pub returns-clause-places : goal.returns-clause-places
returns-clause-places c = places-cancel

pub returns-clause-dead : goal.returns-clause-dead
returns-clause-dead c = dead-cancel
