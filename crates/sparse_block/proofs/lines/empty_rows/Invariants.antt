use Rattle.std.proofs.Common.{◌≡◌, [], replicate}
use Rattle.sparse_block.specs.Inside.{entries_in}
use Rattle.sparse_block.proofs.lines.empty_rows.Given as goal

abbrev pub invariant-rows : goal.invariant-rows
invariant-rows l = entries_in l.rows.items ≡ replicate l.counter []
