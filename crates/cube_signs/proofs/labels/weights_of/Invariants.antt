use Rattle.std.proofs.Common.{◌≡◌, map}
use Rattle.std.specs.List.{range_with_len}
use Rattle.kh_types.specs.Bits.{ones}
use Rattle.cube_signs.proofs.labels.weights_of.Given as goal

abbrev pub invariant-labels : goal.invariant-labels
invariant-labels l = l.weights.items ≡ map (ones l.circles) (range_with_len 0 l.label)
