use Rattle.std.proofs.lemmas.Bool.Decides.{nat_tests}
use Rattle.std.proofs.Common.{◌≡◌, ◌≤◌, ◌∙◌, arith, length}
use Rattle.std.proofs.lemmas.Int.{ints}
use Rattle.kh_types.specs.Directions.{minus_count}
use Rattle.kh_types.specs.declared.limits.TheConstants.{CROSSINGS}
use Rattle.sparse_block.specs.Inside.{lists_in}
use Rattle.cube_signs.specs.Tables.{all_levels}
use Rattle.cube_signs.proofs.LevelLemmas.{levels-length, states_at-level, states_at-none}
use Rattle.cube_signs.proofs.cube.Cube.states_at.Goals as goal
use Rattle.cube_signs.proofs.cube.Cube.states_at.Goals.{else-ones-ge0-via-then-ones-ge0+else-ones, else-ones-ge0-via-else-ones-ge0}

pub index-requires : goal.index-requires
index-requires = grind (arith, nat_tests, ints, levels-length)

pub returns-then-ones : goal.returns-then-ones
returns-then-ones c =
    let code = c.args.self.now in
    let levels = c.self.inside.levels in
    let are : lists_in levels.items ≡ all_levels code = rw (← c.self.view_is) c.self.invariant.are_levels in
    let are_minus : c.self.inside.minus ≡ minus_count code.crossings = rw (← c.self.view_is) c.self.invariant.are_minus in
    let count = levels-length code levels.items are in
    c.deref.ensures.value
    ∙ states_at-level code levels.items c.index.result.now _ c.args.at.i are
    (omega (arith, ints, c.from.ensures, c.from-2.ensures, c.if-ones-ge0.true, c.if-ones.true))
    (omega (arith, ints, count, c.from.ensures, c.from-2.ensures, c.if-ones-ge0.true, c.if-ones.true)) c.index.ensures
    (omega (arith, ints, are_minus, c.from.ensures, c.from-2.ensures, c.if-ones-ge0.true, c.if-ones.true))

pub returns-else-ones-ge0 : goal.returns-else-ones-ge0
returns-else-ones-ge0 c =
    let code = c.args.self.now in
    let are_minus : c.self.inside.minus ≡ minus_count code.crossings = rw (← c.self.view_is) c.self.invariant.are_minus in
    let few : length code.crossings ≤ CROSSINGS = omega (arith, c.crossing_count.ensures.count, c.crossing_count.ensures.few) in
    elim c.else-ones-ge0.branch [
      | else-ones-ge0-via-then-ones-ge0+else-ones w ↦
          states_at-none code c.args.at.i few
          (λ level within same.
          omega (arith, ints, are_minus, c.from.ensures, c.from-2.ensures, w.if-ones-ge0.true, w.if-ones.false, within, same))
      | else-ones-ge0-via-else-ones-ge0 w ↦
          states_at-none code c.args.at.i few
          (λ level within same.
          omega (arith, ints, are_minus, c.from.ensures, c.from-2.ensures, w.if-ones-ge0.false, within, same))
    ]
