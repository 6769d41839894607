use Rattle.std.proofs.Common.{◌≡◌, [], replicate}
use Rattle.sparse_block.specs.Inside.{lists_in}
use Rattle.cube_signs.proofs.labels.empty_lists.Given as goal

abbrev pub invariant-lists : goal.invariant-lists
invariant-lists l = lists_in l.lists.items ≡ replicate l.weight []
