use Rattle.std.proofs.Common.{arith}
use Rattle.plain_matrix.proofs.TransposeLemmas.{matrix_column-more}
use Rattle.plain_matrix.proofs.transpose.column_of.Goals as goal

pub rows-preserved : goal.rows-preserved
rows-preserved g c =
    matrix_column-more g.F.PrimeField.value_of c.args.rows.now c.rows.row-index c.args.column c.rows.made.items c.push.new.self.items
    c.deref.result.now c.row-item.result c.entry.result c.rows.invariant (omega (arith, c.rows-test.true)) c.row-item.is
    c.deref.ensures.value c.entry.ensures c.in_ok-push.ensures.items
