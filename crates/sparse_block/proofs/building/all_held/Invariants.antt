use Rattle.std.proofs.Common.{◌≡◌, ◌++◌}
use Rattle.sparse_block.specs.Inside.{lines_in}
use Rattle.sparse_block.proofs.building.all_held.Given as goal

abbrev pub invariant-degrees : goal.invariant-degrees
invariant-degrees l = l.made.items ++ lines_in l.degree-iterator.rest.items ≡ lines_in l.fn.columns.items
