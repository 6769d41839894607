use Rattle.std.proofs.Common.{◌+◌, ◌*◌, ◌≤◌, ◌∙◌, ℕ, ℤ, length, map, ap, sym, arith}
use Rattle.kh_types.specs.Generators.{states}
use Rattle.cube_signs.specs.Chosen.{has_minus}
use Rattle.cube_signs.specs.ChosenParts.{all_places_to, chosen_to}
use Rattle.cube_signs.specs.Tables.{own_base}
use Rattle.cube_signs.proofs.BlockLemmas.{found-nowhere}
use Rattle.cube_signs.proofs.BlockSources.{opening-chosen}
use Rattle.cube_signs.proofs.cube.Cube.chosen_opening_block.Goals as goal

pub invariant_of-result : goal.invariant_of-result
invariant_of-result g c =
    let p = g.F.PrimeField.P in
    let code = c.args.self.now in
    let choice = has_minus c.args.circles.now in
    let j = c.lowest-lowest.result.j in
    let count = c.crossing_count.ensures.count in
    let few : length code.crossings ≤ 20 = omega (arith, count, c.crossing_count.ensures.few) in
    record {
      opening = opening-chosen choice p code j (omega (arith, c.element_laws.ensures.field.above_one)) c.state_count.ensures.code
          c.state_count.ensures.size few c.requires;
      closed = c.requires;
      is_low = c.lowest-lowest.ensures.i;
      are_names = c.in_ok-chosen.ensures.names ∙ ap (λ (n : ℕ). chosen_to choice code j (2 * n + 1)) count;
      are_places = c.in_ok-chosen.ensures.places ∙ ap (λ (n : ℕ). all_places_to choice code j (2 * n + 1)) count;
      are_bases = c.in_ok-bases.ensures.bases ∙ ap (λ (j : ℤ). map (own_base code j) (states code)) (sym c.lowest-lowest.ensures.j);
      small = c.in_ok-bases.ensures.small;
      around_is = found-nowhere p code c.in_ok-bases.field-0.bases.items c.nowhere.result.state c.nowhere.result.outs.items
          c.nowhere.ensures.state few;
      beside_is = found-nowhere p code c.in_ok-bases.field-0.bases.items c.nowhere-2.result.state c.nowhere-2.result.outs.items
          c.nowhere-2.ensures.state few;
    }
