use Rattle.std.proofs.Common.{◌≤◌, ◌+◌, ◌^◌, ◌∙◌, [], ap, arith, refl, replicate}
use Rattle.std.specs.Prelude.{slice_index}
use Rattle.std.proofs.Math.Pow.{pow_mono}
use Rattle.sparse_block.specs.Inside.{lists_in}
use Rattle.cube_signs.specs.LabelRanks.{labels_with}
use Rattle.cube_signs.proofs.LabelLists.{length-lists, lists-all, lists-more, lists-none, weight-small}
use Rattle.cube_signs.proofs.LabelPlaces.{length-weights}
use Rattle.cube_signs.proofs.labels.labels_by_weight.Goals as goal

pub labels-init : goal.labels-init
labels-init c =
    lists-none c.args.weights.now (c.args.circles + 1) (lists_in c.in_ok-lists.lists.items)
    (c.in_ok-lists.ensures ∙ ap (λ count. replicate (count + 1) []) c.from.ensures)

pub overflow_cast-label : goal.overflow_cast-label
overflow_cast-label c =
    let power : 2 ^ c.args.circles ≤ 2 ^ 22 = pow_mono c.requires.circles in
    omega (arith, power, c.labels-test.true, length-weights c.args.circles c.args.weights.now c.requires.weights)

pub push_label-requires : goal.push_label-requires
push_label-requires c =
    omega (
      arith,
      weight-small c.args.circles c.labels.label c.args.weights.now c.requires.weights c.labels-test.true,
      length-lists c.labels.lists.items (λ weight. labels_with c.args.weights.now weight c.labels.label) (c.args.circles + 1)
          c.labels.invariant,
    )

pub labels-preserved : goal.labels-preserved
labels-preserved c =
    lists-more c.args.weights.now (c.args.circles + 1) c.labels.label (slice_index c.args.weights.now c.labels.label)
    (lists_in c.labels.lists.items)
    (lists_in c.push_label.new.lists.items) c.labels.invariant refl
    (weight-small c.args.circles c.labels.label c.args.weights.now c.requires.weights c.labels-test.true) c.in_ok-push_label.ensures

pub returns : goal.returns
returns c =
    lists-all c.args.circles c.args.weights.now c.labels.label (lists_in c.labels.lists.items) c.requires.weights c.labels.invariant
    (omega (arith, c.labels-test.false, c.labels.auto.label-end))
