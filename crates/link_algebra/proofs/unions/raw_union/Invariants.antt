use Rattle.std.proofs.Common.{◌≡◌, ◌++◌, map, take}
use Rattle.kh_types.specs.Code.{arc_count}
use Rattle.link_algebra.specs.Unions.{raised_slots}
use Rattle.link_algebra.proofs.unions.raw_union.Given as goal

abbrev pub invariant-places : goal.invariant-places
invariant-places l =
    l.crossings.items ≡ l.first.crossings ++ map (raised_slots (arc_count l.first.crossings)) (take l.place l.second.crossings)
