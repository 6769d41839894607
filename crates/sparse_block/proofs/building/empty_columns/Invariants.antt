use Rattle.std.proofs.Common.{◌≡◌, take}
use Rattle.sparse_block.specs.Complexes.{no_columns}
use Rattle.sparse_block.specs.Inside.{lists_in}
use Rattle.sparse_block.proofs.building.empty_columns.Given as goal

abbrev pub invariant-degrees : goal.invariant-degrees
invariant-degrees l = l.made.items ≡ no_columns (take l.degree-index (lists_in l.alive))
