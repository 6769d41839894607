use Rattle.std.proofs.Common.{◌≡◌, map, take}
use Rattle.sparse_block.specs.Entries.{entry_at}
use Rattle.cube_tests.proofs.made_complexes.line.Given as goal

abbrev pub invariant-pairs : goal.invariant-pairs
invariant-pairs l = l.made.items ≡ map entry_at (take l.k l.pairs)
