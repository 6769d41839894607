use Rattle.std.proofs.Common.{arith}
use Rattle.column_reduction.proofs.Ended.{sum-more}
use Rattle.column_reduction.proofs.under_way.place_sum.Goals as goal

pub degrees-preserved : goal.degrees-preserved
degrees-preserved c =
    sum-more c.args.alive.now c.degrees.k c.index-alive-k.result c.degrees.sum c.len-sum.result c.degrees-test.true c.index-alive-k.is
    (omega (arith, c.len-sum.ensures, c.index-alive-k.result.ok)) c.requires.places c.degrees.invariant
