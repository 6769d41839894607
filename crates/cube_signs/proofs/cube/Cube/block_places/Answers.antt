use Rattle.std.proofs.Common.{◌≡◌, ◌<◌, ◌∙◌, ℤ, pos, ◌+ℤ◌, ◌≤ℤ◌, length, map, ap, sym, subst, arith, w16}
use Rattle.std.proofs.lemmas.Int.{ints, to_z-of_z}
use Rattle.kh_types.specs.Generators.{states}
use Rattle.kh_types.specs.History.{first_or_zero, homological_degrees}
use Rattle.cube_signs.specs.Columns.{generators_from}
use Rattle.cube_signs.specs.Tables.{own_base}
use Rattle.cube_signs.proofs.BlockSources.{names-block, opening-block}
use Rattle.cube_signs.proofs.NamedBlocks.{block-some}
use Rattle.cube_signs.proofs.cube.Cube.block_places.Goals as goal

pub span-requires-clause-some : goal.span-requires-clause-some
span-requires-clause-some g c =
    let code = c.args.self.now in
    let same : c.lowest.result.j ≡ c.args.j = c.lowest.ensures.j ∙ to_z-of_z w16 c.args.j c.ranges.j in
    subst (λ (j : ℤ). 0 < length (homological_degrees code j)) (sym same) (block-some code c.args.j c.requires)

pub returns : goal.returns
returns g c =
    let p = g.F.PrimeField.P in
    let code = c.args.self.now in
    let j = c.args.j in
    let least = c.in_ok-span.span.least in
    let same : c.lowest.result.j ≡ j = c.lowest.ensures.j ∙ to_z-of_z w16 j c.ranges.j in
    let quantum : least.j ≡ j = c.in_ok-span.ensures.quantum ∙ same in
    let low : least.i ≡ first_or_zero (homological_degrees code j) =
    c.in_ok-span.ensures.low ∙ ap (λ (j : ℤ). first_or_zero (homological_degrees code j)) same in
    let count : c.in_ok-span.span.count ≡ length (homological_degrees code j) =
    c.in_ok-span.ensures.count ∙ ap (λ (j : ℤ). length (homological_degrees code j)) same in
    let end : (first_or_zero (homological_degrees code j) +ℤ pos (length (homological_degrees code j))) ≤ℤ pos 32 =
    omega (arith, ints, c.in_ok-span.ensures.below, low, count) in
    record {
      opening = opening-block p code j (omega (arith, c.element_laws.ensures.field.above_one)) c.state_count.ensures.code
          c.state_count.ensures.size c.requires end;
      is_degree = quantum;
      is_low = low;
      are_names = c.in_ok-names.ensures
          ∙ ap (λ (j : ℤ). generators_from code least.i j c.in_ok-span.span.count) quantum
          ∙ names-block p code j least.i c.in_ok-span.span.count low count;
      are_bases = c.in_ok-bases.ensures.bases ∙ ap (λ (j : ℤ). map (own_base code j) (states code)) (to_z-of_z w16 j c.ranges.j);
      small = c.in_ok-bases.ensures.small;
    }
