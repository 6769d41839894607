use Rattle.std.proofs.Common.{arith}
use Rattle.plain_matrix.specs.Inside.{values_of}
use Rattle.plain_matrix.proofs.TransposeLemmas.{values_of-column, size-transposed}
use Rattle.plain_matrix.proofs.transpose.transposed.Goals as goal

pub loop-column-preserved : goal.loop-column-preserved
loop-column-preserved g c =
    values_of-column g.F.PrimeField.value_of c.loop-column.made.items c.push.new.self.items c.in_ok-column_of.field-0
    c.loop-column.column (values_of g.F.PrimeField.value_of c.row_list-rows.result.now) c.in_ok-push.ensures.items
    c.in_ok-column_of.ensures c.loop-column.invariant

pub of_rows-requires : goal.of_rows-requires
of_rows-requires g c =
    size-transposed g.F.PrimeField.value_of g.F.PrimeField.P c.loop-column.column c.args.matrix.now.columns c.rows.result
    c.loop-column.made.items (values_of g.F.PrimeField.value_of c.row_list-rows.result.now) c.args.matrix.now.rows
    (omega (arith, c.loop-column-test.false, c.loop-column.auto.column-end, c.columns-columns.ensures))
    (omega (arith, c.columns-columns.ensures, c.columns-columns.type_inv)) c.rows.ensures c.matrix_laws.ensures.matrix
    c.row_list-rows.ensures.values c.loop-column.invariant
