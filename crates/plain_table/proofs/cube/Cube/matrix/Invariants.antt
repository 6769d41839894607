use Rattle.std.proofs.Common.{◌≡◌, length}
use Rattle.plain_table.proofs.MatrixLemmas.{matrix_begun}
use Rattle.plain_table.proofs.cube.Cube.matrix.Given as goal

abbrev pub invariant-rows : goal.invariant-rows
invariant-rows g l =
    record {
      made : l.made ≡ matrix_begun g.F.PrimeField.P l.self.diagram l.tails l.heads l.row l.initial.made;
      rows : length l.made.rows ≡ length l.heads;
      columns : l.made.columns ≡ length l.tails;
    }
