use Rattle.kh_types.specs.WorkedCodes.{trefoil}
use Rattle.crossing_maps.proofs.PlaceLaws.{can-add}
use Rattle.crossing_maps.proofs.TrefoilPlaces.{trefoil-place}
use Rattle.crossing_maps.proofs.tests.saddle_there.Goals as goal

pub saddle_bridge-bridge-requires-clause-sides : goal.saddle_bridge-bridge-requires-clause-sides
saddle_bridge-bridge-requires-clause-sides c =
    can-add trefoil c.args.place c.args.site.now _ _ (trefoil-place c.args.place c.requires.place) c.requires.site
    c.split_there-none.ensures c.split_there-one.ensures
