use Rattle.std.proofs.Common.{◌∙◌, ap, length, arith}
use Rattle.std.proofs.lemmas.List.{length-set, length-replicate}
use Rattle.plain_matrix.specs.Matrices.{Matrix}
use Rattle.plain_table.proofs.MatrixLemmas.{matrix_begun-more}
use Rattle.plain_table.proofs.cube.Cube.matrix.Goals as goal

pub rows-preserved : goal.rows-preserved
rows-preserved g c =
    record {
      made =
          matrix_begun-more g.F.PrimeField.P c.args.self.now.diagram c.args.tails.now c.args.heads.now c.rows.row c.in_ok-made.made
          c.rows.made c.put_row.new.made c.index-heads-row.result
          (ap (λ (matrix : Matrix). length matrix.rows) c.in_ok-made.ensures ∙ length-replicate c.in_ok-rows.rows _ ∙ c.in_ok-rows.ensures)
          (omega arith) c.rows.invariant.made c.put_row.ensures;
      rows =
          ap (λ (matrix : Matrix). length matrix.rows) c.put_row.ensures ∙ length-set c.rows.made.rows c.rows.row _
          ∙ c.rows.invariant.rows;
      columns = ap (λ (matrix : Matrix). matrix.columns) c.put_row.ensures ∙ c.rows.invariant.columns;
    }
