use Rattle.std.proofs.Common.{◌∙◌, refl, arith}
use Rattle.kh_types.specs.WorkedCodes.{trefoil}
use Rattle.crossing_maps.proofs.TrefoilPlaces.{trefoil-place}
use Rattle.crossing_maps.proofs.tests.terms_of.Goals as goal

pub terms_at-requires-2-clause-opened : goal.terms_at-requires-2-clause-opened
terms_at-requires-2-clause-opened c =
    c.as_slice.ensures.value ∙ c.next_arcs-opened.ensures trefoil 0 (trefoil-place 0 (omega arith)) refl refl
