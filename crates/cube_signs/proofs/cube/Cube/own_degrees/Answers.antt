use Rattle.std.proofs.Common.{◌≡◌, ap, arith}
use Rattle.std.proofs.lemmas.Int.{ints}
use Rattle.kh_types.specs.Directions.{minus_count}
use Rattle.kh_types.specs.Generators.{one_count}
use Rattle.cube_signs.specs.declared.shape.Shape.{Shape}
use Rattle.cube_signs.proofs.cube.Cube.own_degrees.Goals as goal

pub returns-clause-i : goal.returns-clause-i
returns-clause-i c =
    let code = c.args.self.now in
    let are_minus : c.self.inside.minus ≡ minus_count code.crossings = rw (← c.self.view_is) c.self.invariant.are_minus in
    let are_ones : c.shape.result.ones ≡ one_count code c.args.state = ap (λ (s : Shape). s.ones) c.shape.ensures.shape in
    omega (arith, ints, are_minus, are_ones, c.from.ensures, c.from-2.ensures)
