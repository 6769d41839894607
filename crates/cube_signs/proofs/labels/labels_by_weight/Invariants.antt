use Rattle.std.proofs.Common.{◌≡◌, ◌+◌}
use Rattle.sparse_block.specs.Inside.{lists_in}
use Rattle.cube_signs.proofs.LabelLists.{lists_below}
use Rattle.cube_signs.proofs.labels.labels_by_weight.Given as goal

abbrev pub invariant-labels : goal.invariant-labels
invariant-labels l = lists_in l.lists.items ≡ lists_below l.weights (l.circles + 1) l.label
