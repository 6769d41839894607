use Rattle.std.proofs.Common.{◌≡◌, length}
use Rattle.sparse_block.specs.Inside.{lists_in}
use Rattle.column_reduction.specs.StoredColumns.{IsReducedTo, from_greatest, pivots_in}
use Rattle.column_reduction.proofs.reducing.reduce_columns.Given as goal

-- the degrees before number k are reduced
abbrev pub invariant-degrees : goal.invariant-degrees
invariant-degrees g l =
    record {
      same : l.source ≡ l.fn.source;
      count : length l.made.pivots.items ≡ l.k;
      reduced : IsReducedTo g.F.PrimeField.P (g.S.ColumnSource.whole l.fn.source).complex l.k (lists_in l.made.alive.items)
          (from_greatest (pivots_in l.made.pivots.items));
    }
