use Rattle.std.proofs.Common.{◌≡◌, take}
use Rattle.sparse_block.specs.Complexes.{all_alive}
use Rattle.sparse_block.specs.Inside.{lists_in}
use Rattle.column_reduction.proofs.reducing.all_alive.Given as goal

abbrev pub invariant-degrees : goal.invariant-degrees
invariant-degrees l = lists_in l.made.items ≡ all_alive (take l.degree-index (lists_in l.names))
