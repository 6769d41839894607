use Rattle.std.proofs.Common.{◌≡◌, ◌≤◌, pos, ◌+ℤ◌}
use Rattle.column_reduction.specs.StoredColumns.{full_columns}
use Rattle.column_reduction.specs.UnderWay.{LeaveNone}
use Rattle.column_reduction.proofs.next_column.next_left.Given as goal

-- of the columns so far nothing is left
abbrev pub invariant-places : goal.invariant-places
invariant-places g l =
    record {
      same : l.source ≡ l.fn.source;
      after : l.from ≤ l.place;
      none : LeaveNone g.F.PrimeField.P (g.S.ColumnSource.whole l.fn.source).complex
          ((g.S.ColumnSource.whole l.fn.source).complex.low +ℤ pos l.k) l.alive
          (full_columns (g.S.ColumnSource.whole l.fn.source).complex l.k l.stored.columns.items) l.from l.place;
    }
