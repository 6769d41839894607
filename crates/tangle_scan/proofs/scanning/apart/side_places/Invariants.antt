use Rattle.std.proofs.Common.{◌≡◌}
use Rattle.std.specs.List.{filter, range_with_len}
use Rattle.tangle_scan.specs.Sides.{is_on_side}
use Rattle.tangle_scan.proofs.scanning.apart.side_places.Given as goal

abbrev pub invariant-places : goal.invariant-places
invariant-places l = l.places.items ≡ filter (is_on_side l.is_first l.diagram.crossings) (range_with_len 0 l.place)
