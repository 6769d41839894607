use Rattle.std.proofs.Common.{◌≡◌, ◌≤◌, arith, length}
use Rattle.std.proofs.lemmas.Int.{ints}
use Rattle.kh_types.specs.Directions.{minus_count}
use Rattle.kh_types.specs.declared.limits.TheConstants.{CROSSINGS}
use Rattle.cube_signs.proofs.PlaceLemmas.{size-kept, size-none}
use Rattle.cube_signs.proofs.cube.Cube.size.Goals as goal
use Rattle.cube_signs.proofs.cube.Cube.size.Goals.{else-ones-ge0-via-then-ones-ge0+else-ones, else-ones-ge0-via-else-ones-ge0}

pub returns-then-ones : goal.returns-then-ones
returns-then-ones c =
    let code = c.args.self.now in
    let are_minus : c.self.inside.minus ≡ minus_count code.crossings = rw (← c.self.view_is) c.self.invariant.are_minus in
    size-kept code c.args.at.i c.args.at.j _ c.args.sizes.now c.requires
    (omega (arith, ints, are_minus, c.from.ensures, c.from-2.ensures, c.if-ones-ge0.true, c.if-ones.true))
    (omega (arith, ints, are_minus, c.from.ensures, c.from-2.ensures, c.if-ones-ge0.true, c.if-ones.true))

pub returns-else-ones-ge0 : goal.returns-else-ones-ge0
returns-else-ones-ge0 c =
    let code = c.args.self.now in
    let are_minus : c.self.inside.minus ≡ minus_count code.crossings = rw (← c.self.view_is) c.self.invariant.are_minus in
    let few : length code.crossings ≤ CROSSINGS = omega (arith, c.crossing_count.ensures.count, c.crossing_count.ensures.few) in
    elim c.else-ones-ge0.branch [
      | else-ones-ge0-via-then-ones-ge0+else-ones w ↦
          size-none code c.args.at.i c.args.at.j few
          (λ level within same.
          omega (arith, ints, are_minus, c.from.ensures, c.from-2.ensures, w.if-ones-ge0.true, w.if-ones.false, within, same))
      | else-ones-ge0-via-else-ones-ge0 w ↦
          size-none code c.args.at.i c.args.at.j few
          (λ level within same.
          omega (arith, ints, are_minus, c.from.ensures, c.from-2.ensures, w.if-ones-ge0.false, within, same))
    ]
