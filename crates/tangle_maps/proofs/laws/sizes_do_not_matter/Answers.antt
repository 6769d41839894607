use Rattle.tangle_maps.proofs.SizeLemmas.{class-size, least_points-size}
use Rattle.tangle_maps.proofs.PartSizes.{composed-size}
use Rattle.tangle_maps.proofs.laws.sizes_do_not_matter.Goals as goal

pub returns : goal.returns
returns c = record { class = class-size; least = least_points-size; composed = composed-size }
