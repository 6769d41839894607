use Rattle.std.proofs.Common.{◌≡◌, ◌≢◌, ◌∙◌, ap, sym, arith, pos, ◌-ℤ◌, FitsSigned, w16, rules}
use Rattle.std.proofs.lemmas.Bool.Decides.{Decides-int_eq}
use Rattle.std.proofs.lemmas.Int.{ints, to_z-of_z}
use Rattle.kh_types.specs.Directions.{minus_count}
use Rattle.kh_types.specs.Generators.{one_count}
use Rattle.kh_types.proofs.Integers.{int_eq-other}
use Rattle.cube_signs.specs.Shapes.{gives_degree}
use Rattle.cube_signs.specs.declared.shape.Shape.{Shape}
use Rattle.cube_signs.proofs.LabelPlaces.{is_label-given, is_label-none}
use Rattle.cube_signs.proofs.cube.Cube.weight.Goals as goal

pub returns-then-from-at : goal.returns-then-from-at
returns-then-from-at c =
    let code = c.args.self.now in
    let state = c.args.state in
    let at = c.args.at in
    let are_minus : c.self.inside.minus ≡ minus_count code.crossings = rw (← c.self.view_is) c.self.invariant.are_minus in
    let are_ones : c.shape-shape.result.ones ≡ one_count code state = ap (λ (s : Shape). s.ones) c.shape-shape.ensures.shape in
    let same : pos (one_count code state) -ℤ pos (minus_count code.crossings) ≡ at.i =
    omega (arith, ints, are_minus, are_ones, c.from.ensures, c.from-2.ensures, c.if-from-at.true) in
    let first = (Decides-int_eq (pos (one_count code state) -ℤ pos (minus_count code.crossings)) at.i).1 same in
    let fits : FitsSigned w16 at.j = search rules in
    let gives = simp (to_z-of_z, fits) at c.weight.ensures in
    record {
      labels = λ label.
          is_label-given code at.i at.j state label c.weight.result first
          (λ count. ap (λ (s : Shape). gives_degree s at.j count) (sym c.shape-shape.ensures.shape) ∙ gives count);
    }

pub returns-else-from-at : goal.returns-else-from-at
returns-else-from-at c =
    let code = c.args.self.now in
    let state = c.args.state in
    let at = c.args.at in
    let are_minus : c.self.inside.minus ≡ minus_count code.crossings = rw (← c.self.view_is) c.self.invariant.are_minus in
    let are_ones : c.shape-shape.result.ones ≡ one_count code state = ap (λ (s : Shape). s.ones) c.shape-shape.ensures.shape in
    let differ : pos (one_count code state) -ℤ pos (minus_count code.crossings) ≢ at.i =
    λ same. c.if-from-at.false (omega (arith, ints, are_minus, are_ones, c.from.ensures, c.from-2.ensures, same)) in
    let fails = int_eq-other (pos (one_count code state) -ℤ pos (minus_count code.crossings)) at.i differ in
    record { labels = λ label. is_label-none code at.i at.j state label fails }
