use Rattle.std.proofs.Common.{◌∙◌, ap, length, arith}
use Rattle.std.proofs.lemmas.List.{length-set}
use Rattle.plain_matrix.specs.Matrices.{Matrix}
use Rattle.plain_table.proofs.MatrixLemmas.{row_begun-more}
use Rattle.plain_table.proofs.cube.Cube.put_row.Goals as goal

pub columns-preserved : goal.columns-preserved
columns-preserved g c =
    record {
      made =
          row_begun-more g.F.PrimeField.P c.args.self.now.diagram c.args.tails.now c.args.head c.args.row c.columns.column
          (g.F.PrimeField.value_of c.coefficient.result) c.args.made.now c.columns.made c.set.new.self c.index-tails-column.result
          c.requires.row (c.matrix_laws.ensures.matrix.width c.args.row c.requires.row ∙ c.requires.columns) (omega arith)
          c.coefficient.ensures c.columns.invariant.made c.set.ensures;
      rows =
          ap (λ (matrix : Matrix). length matrix.rows) c.set.ensures ∙ length-set c.columns.made.rows c.args.row _
          ∙ c.columns.invariant.rows;
      columns = ap (λ (matrix : Matrix). matrix.columns) c.set.ensures ∙ c.columns.invariant.columns;
    }
