use Rattle.std.proofs.Common.{take}
use Rattle.sparse_block.specs.Inside.{HaveColumn, entries_in}
use Rattle.sparse_block.proofs.lines.push_column.Given as goal

abbrev pub invariant-entries : goal.invariant-entries
invariant-entries l =
    HaveColumn l.column (take l.entry-index l.entries) (entries_in l.initial.rows.items) (entries_in l.rows.items)
