use Rattle.std.proofs.Common.{◌≡◌, map, take}
use Rattle.kh_types.specs.Directions.{positive_at}
use Rattle.tangle_scan.proofs.scanning.apart.signs_at.Given as goal

abbrev pub invariant-places : goal.invariant-places
invariant-places l = l.positive.items ≡ map (positive_at l.diagram.crossings) (take l.at l.places)
