use Rattle.std.proofs.Common.{subst, sym}
use Rattle.tangle_maps.specs.KeptSeams.{IsKeptSeam}
use Rattle.tangle_maps.proofs.KeptLemmas.{seam-found}
use Rattle.tangle_maps.proofs.kept.found_in.Goals as goal

pub is_along-requires : goal.is_along-requires
is_along-requires c =
    subst IsKeptSeam (sym c.index-list-place.is) (c.requires c.places.place c.index-list-place.result c.places-test.true)

pub returns-then-is_along : goal.returns-then-is_along
returns-then-is_along c =
    seam-found c.args.way.now c.places.place c.index-list-place.result c.args.list.now c.places-test.true c.index-list-place.is
    (c.is_along.ensures c.if-is_along.true)
