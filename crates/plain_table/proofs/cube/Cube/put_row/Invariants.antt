use Rattle.std.proofs.Common.{◌≡◌, length}
use Rattle.plain_table.proofs.MatrixLemmas.{row_begun}
use Rattle.plain_table.proofs.cube.Cube.put_row.Given as goal

abbrev pub invariant-columns : goal.invariant-columns
invariant-columns g l =
    record {
      made : l.made ≡ row_begun g.F.PrimeField.P l.self.diagram l.tails l.head l.row l.column l.initial.made;
      rows : length l.made.rows ≡ length l.initial.made.rows;
      columns : l.made.columns ≡ l.initial.made.columns;
    }
