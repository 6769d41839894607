use Rattle.std.proofs.lemmas.Bool.Decides.{nat_tests}
use Rattle.std.proofs.Common.{◌∙◌, ap, arith, length}
use Rattle.std.proofs.Math.Pow.{pow_mono}
use Rattle.std.proofs.lemmas.List.FromFn.{length-map-range_with_len}
use Rattle.cube_signs.specs.LabelRanks.{ranks_of}
use Rattle.cube_signs.proofs.TableLemmas.{circles-most, shapes-few}
use Rattle.cube_signs.proofs.cube.Cube.new.Goals as goal

pub most_circles-width-requires : goal.most_circles-width-requires
most_circles-width-requires = grind (arith, nat_tests, shapes-few)

pub ranks_of-requires : goal.ranks_of-requires
ranks_of-requires = grind (arith, nat_tests, pow_mono, length-map-range_with_len)

pub invariant_of-result : goal.invariant_of-result
invariant_of-result c =
    record {
      is_code = c.diagram_laws.ensures.accepted;
      few = c.diagram_laws.ensures.few;
      size = c.requires;
      are_minus = c.minus.ensures;
      are_shapes = c.in_ok-shapes.ensures;
      are_steps = c.in_ok-rows.ensures;
      width = c.most_circles-width.result;
      narrow = c.most_circles-width.ensures.few;
      most = λ state below.
          circles-most c.args.diagram.now c.deref-3.result.now c.most_circles-width.result state
          (c.deref-3.ensures.value ∙ c.in_ok-shapes.ensures) c.most_circles-width.ensures.most below;
      are_labels = c.in_ok-labels.ensures;
      are_ranks = c.in_ok-ranks.ensures
          ∙ ap (λ weights. ranks_of weights (length weights)) (c.deref-5.ensures.value ∙ c.in_ok-weights.ensures);
      are_levels = c.in_ok-levels.ensures;
    }
