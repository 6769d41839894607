use Rattle.std.proofs.Common.{refl, arith, ◌<◌}
use Rattle.std.specs.Prelude.{slice_index}
use Rattle.cube_signs.proofs.LabelRankLemmas.{counted-more, counted-none, ranks-more}
use Rattle.cube_signs.proofs.labels.ranks_of.Goals as goal

pub labels-init : goal.labels-init
labels-init c = record { counts = counted-none c.args.weights.now _ refl; ranks = c.in_ok-ranks.ensures.items }

pub labels-preserved : goal.labels-preserved
labels-preserved c =
    let weights = c.args.weights.now in
    let small : slice_index weights c.labels.label < 256 = omega (arith, c.type_inv.weights c.labels.label) in
    record {
      counts = counted-more weights c.labels.counts c.count_one.new.counts c.labels.label _ c.labels.invariant.counts
          c.labels-test.true refl small c.count_one.ensures.more;
      ranks = ranks-more weights c.labels.counts c.labels.ranks.items c.push.new.self.items c.labels.label _ c.count_one.result
          c.labels.invariant.counts refl small c.labels.invariant.ranks c.count_one.ensures.before c.in_ok-push.ensures.items;
    }
