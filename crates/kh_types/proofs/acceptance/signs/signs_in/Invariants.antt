use Rattle.std.proofs.Common.{◌≡◌, map}
use Rattle.std.specs.List.{range_with_len}
use Rattle.kh_types.specs.Directions.{positive_in_at}
use Rattle.kh_types.proofs.acceptance.signs.signs_in.Given as goal

abbrev pub invariant-places : goal.invariant-places
invariant-places l = l.signs.items ≡ map (positive_in_at l.crossings l.components) (range_with_len 0 l.place)
