use Rattle.std.proofs.Common.{◌≡◌, map}
use Rattle.std.specs.List.{range_with_len}
use Rattle.cube_signs.specs.Shapes.{shape_of}
use Rattle.cube_signs.proofs.shape.all_shapes.Given as goal

abbrev pub invariant-states : goal.invariant-states
invariant-states l = l.shapes.items ≡ map (shape_of l.diagram) (range_with_len 0 l.state)
