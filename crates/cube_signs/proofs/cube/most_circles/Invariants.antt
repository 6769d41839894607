use Rattle.std.proofs.Common.{◌≤◌, take}
use Rattle.std.specs.List.{All}
use Rattle.cube_signs.proofs.cube.most_circles.Given as goal

abbrev pub invariant-states : goal.invariant-states
invariant-states l = record {
  most : All (λ shape. shape.circles ≤ l.most) (take l.state l.shapes);
  few : l.most ≤ 22;
}
