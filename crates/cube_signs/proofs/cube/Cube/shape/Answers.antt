use Rattle.std.proofs.lemmas.Bool.Decides.{nat_tests}
use Rattle.std.proofs.Common.{◌≡◌, ◌≤◌, ap, arith, map}
use Rattle.kh_types.specs.Generators.{states}
use Rattle.circle_smoothing.specs.GeneratorCounts.{generator_count}
use Rattle.circle_smoothing.specs.declared.limits.TheConstants.{GENERATORS}
use Rattle.cube_signs.specs.Shapes.{shape_of}
use Rattle.cube_signs.proofs.TableLemmas.{circles-few, length-shapes, shape-at}
use Rattle.cube_signs.proofs.cube.Cube.shape.Goals as goal

pub index-requires : goal.index-requires
index-requires = grind (arith, nat_tests, length-shapes)

pub returns-clause-shape : goal.returns-clause-shape
returns-clause-shape = grind (arith, nat_tests, shape-at)

pub returns-clause-few : goal.returns-clause-few
returns-clause-few c =
    let code = c.args.self.now in
    let shapes = c.self.inside.shapes in
    let are : shapes.items ≡ map (shape_of code) (states code) = rw (← c.self.view_is) c.self.invariant.are_shapes in
    let size : generator_count code ≤ GENERATORS = rw (← c.self.view_is) c.self.invariant.size in
    let is = shape-at code shapes.items c.args.state c.index.result.now are c.requires c.index.ensures in
    omega (arith, ap (λ shape. shape.circles) is, circles-few code c.args.state c.requires size)
