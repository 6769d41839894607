use Rattle.std.proofs.Common.{◌≡◌}
use Rattle.cube_signs.specs.KindShapes.{kind_shapes}
use Rattle.cube_signs.proofs.by_kind.kind_shapes.Given as goal

abbrev pub invariant-kinds : goal.invariant-kinds
invariant-kinds l = l.shapes.items ≡ kind_shapes l.counted l.kind
