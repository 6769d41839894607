use Rattle.std.proofs.Common.{◌≡◌, ◌≤◌, pos, ◌+ℤ◌, length}
use Rattle.column_reduction.specs.StoredColumns.{AreFirstReduced, AreStored, full_columns}
use Rattle.column_reduction.proofs.reduced_degree.reduce_degree.Given as goal

-- the first columns are reduced and stored
abbrev pub invariant-places : goal.invariant-places
invariant-places g l =
    record {
      same : l.source ≡ l.fn.source;
      reduced : AreFirstReduced g.F.PrimeField.P (g.S.ColumnSource.whole l.fn.source).complex
          ((g.S.ColumnSource.whole l.fn.source).complex.low +ℤ pos l.k) l.alive l.place
          (full_columns (g.S.ColumnSource.whole l.fn.source).complex l.k l.stored.columns.items);
      stored : AreStored g.F.PrimeField.P (full_columns (g.S.ColumnSource.whole l.fn.source).complex l.k l.stored.columns.items)
          l.stored.owners.items;
      rows : length l.stored.owners.items ≡ l.height;
      count : length l.stored.columns.items ≤ l.place;
    }
