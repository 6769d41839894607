use Rattle.std.proofs.Common.{arith}
use Rattle.plain_matrix.proofs.InsideLemmas.{size-zeros}
use Rattle.plain_matrix.proofs.dense.Dense.zero.Goals as goal

pub invariant_of-result : goal.invariant_of-result
invariant_of-result g c =
    size-zeros g.F.PrimeField.value_of c.loop.made.items c.loop.counter c.args.columns
    (omega (arith, c.loop.auto.counter-end, c.ranges.rows.fits)) c.loop.invariant
