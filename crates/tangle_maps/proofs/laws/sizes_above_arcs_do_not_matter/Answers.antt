use Rattle.tangle_maps.proofs.SizeLemmas.{class-sizes, least_points-sizes}
use Rattle.tangle_maps.proofs.PartSizes.{composed-sizes}
use Rattle.tangle_maps.proofs.laws.sizes_above_arcs_do_not_matter.Goals as goal

pub returns : goal.returns
returns c = record { class = class-sizes; least = least_points-sizes; composed = composed-sizes }
