use Rattle.std.proofs.Common.{◌≡◌, map}
use Rattle.std.specs.List.{range_with_len}
use Rattle.cube_signs.specs.Shapes.{resolution_of}
use Rattle.cube_signs.proofs.shape.all_circles.Given as goal

abbrev pub invariant-states : goal.invariant-states
invariant-states l = l.all.items ≡ map (resolution_of l.diagram) (range_with_len 0 l.state)
