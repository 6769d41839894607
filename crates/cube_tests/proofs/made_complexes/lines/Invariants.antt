use Rattle.std.proofs.Common.{◌≡◌, map, take}
use Rattle.sparse_block.specs.Entries.{entry_at}
use Rattle.sparse_block.specs.Inside.{entries_in}
use Rattle.cube_tests.proofs.made_complexes.lines.Given as goal

abbrev pub invariant-columns : goal.invariant-columns
invariant-columns g l = entries_in l.made.items ≡ map (map entry_at) (take l.k l.columns)
