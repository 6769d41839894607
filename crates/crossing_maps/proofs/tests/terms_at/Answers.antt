use Rattle.std.proofs.Common.{◌∙◌}
use Rattle.kh_types.specs.WorkedCodes.{trefoil}
use Rattle.crossing_maps.proofs.TrefoilPlaces.{trefoil-place}
use Rattle.crossing_maps.proofs.tests.terms_at.Goals as goal

pub saddle_there-requires-clause-site : goal.saddle_there-requires-clause-site
saddle_there-requires-clause-site c =
    let place = trefoil-place c.args.place c.requires.place in
    record {
      before = c.requires.opened;
      here = c.as_slice.ensures.value ∙ c.near_arcs-near.ensures trefoil c.args.place place c.requires.opened c.requires.crossing;
      behind = c.as_slice-2.ensures.value ∙ c.next_arcs-next.ensures trefoil c.args.place place c.requires.opened c.requires.crossing;
      crossing = c.requires.crossing;
    }

pub added_there-requires-clause-site : goal.added_there-requires-clause-site
added_there-requires-clause-site c =
    let place = trefoil-place c.args.place c.requires.place in
    record {
      before = c.requires.opened;
      here = c.as_slice.ensures.value ∙ c.near_arcs-near.ensures trefoil c.args.place place c.requires.opened c.requires.crossing;
      behind = c.as_slice-2.ensures.value ∙ c.next_arcs-next.ensures trefoil c.args.place place c.requires.opened c.requires.crossing;
      crossing = c.requires.crossing;
    }
