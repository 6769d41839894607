use Rattle.std.proofs.Common.{◌≡◌, take}
use Rattle.sparse_block.specs.Inside.{entries_in}
use Rattle.sparse_block.proofs.MatrixLemmas.{rows_of}
use Rattle.sparse_block.proofs.lines.rows_of.Given as goal

abbrev pub invariant-columns : goal.invariant-columns
invariant-columns l = entries_in l.rows.items ≡ rows_of l.height (take l.column (entries_in l.columns))
