use Rattle.std.proofs.Common.{◌≡◌, length}
use Rattle.sparse_block.specs.Entries.{AreEntries, value_at}
use Rattle.column_reduction.specs.Reductions.{IsLeftOf}
use Rattle.column_reduction.specs.StoredColumns.{end_of, full_columns, reduced_columns}
use Rattle.column_reduction.proofs.reduced_column.reduce_line.Given as goal

-- what is left so far is left of the line, and stands at the same rows
abbrev pub invariant-taking : goal.invariant-taking
invariant-taking g l =
    record {
      same : l.source ≡ l.fn.source;
      left : IsLeftOf g.F.PrimeField.P
          (reduced_columns (full_columns (g.S.ColumnSource.whole l.fn.source).complex l.k l.stored.columns.items))
          (value_at l.fn.scratch.left.items) (value_at l.scratch.left.items);
      entries : AreEntries g.F.PrimeField.P (length l.stored.owners.items) l.scratch.left.items;
    }

abbrev pub decreases-taking : goal.decreases-taking
decreases-taking g l = end_of l.scratch.left.items
