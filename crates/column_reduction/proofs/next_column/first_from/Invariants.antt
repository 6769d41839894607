use Rattle.std.proofs.Common.{◌≡◌, ◌≤◌}
use Rattle.sparse_block.specs.Inside.{lists_in}
use Rattle.column_reduction.specs.UnderWay.{AllLeaveNone}
use Rattle.column_reduction.proofs.next_column.first_from.Given as goal

-- no column of the degrees so far has an entry
abbrev pub invariant-degrees : goal.invariant-degrees
invariant-degrees g l =
    record {
      same : l.source ≡ l.fn.source;
      after : l.from ≤ l.k;
      none : AllLeaveNone g.F.PrimeField.P (g.S.ColumnSource.whole l.fn.source).complex (lists_in l.alive) l.from l.k;
    }
