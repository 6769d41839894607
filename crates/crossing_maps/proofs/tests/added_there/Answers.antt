use Rattle.kh_types.specs.WorkedCodes.{trefoil}
use Rattle.crossing_maps.proofs.PlaceLaws.{can-add}
use Rattle.crossing_maps.proofs.TrefoilPlaces.{trefoil-place}
use Rattle.crossing_maps.proofs.tests.added_there.Goals as goal

pub added_bridge-bridge-requires : goal.added_bridge-bridge-requires
added_bridge-bridge-requires c = record {
  sides = can-add trefoil c.args.place c.args.site.now _ _ (trefoil-place c.args.place c.requires.place) c.requires.site
      c.split_there-split.ensures c.split_there-other_split.ensures;
}
