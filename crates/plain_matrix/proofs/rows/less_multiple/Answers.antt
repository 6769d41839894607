use Rattle.std.proofs.Common.{arith}
use Rattle.plain_matrix.proofs.RowLemmas.{values-more, values-whole}
use Rattle.plain_matrix.proofs.rows.less_multiple.Goals as goal

pub loop-k-preserved : goal.loop-k-preserved
loop-k-preserved g c =
    values-more g.F.PrimeField.value_of g.F.PrimeField.P c.loop-k.k (g.F.PrimeField.value_of c.args.factor) c.args.row.now
    c.args.pivot.now c.loop-k.made.items c.push.new.self.items c.index-row-k.result c.index-pivot-k.result c.less.result
    (omega (arith, c.loop-k-test.true, c.min-count.ensures)) (omega (arith, c.loop-k-test.true, c.min-count.ensures))
    c.index-row-k.is c.index-pivot-k.is c.in_ok-push.ensures.items c.less.ensures c.loop-k.invariant

pub returns : goal.returns
returns g c =
    values-whole g.F.PrimeField.value_of g.F.PrimeField.P c.loop-k.k (g.F.PrimeField.value_of c.args.factor) c.args.row.now
    c.args.pivot.now c.loop-k.made.items
    (omega (arith, c.loop-k-test.false, c.loop-k.auto.k-end, c.min-count.ensures)) c.loop-k.invariant
