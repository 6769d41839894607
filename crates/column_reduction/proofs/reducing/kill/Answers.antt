use Rattle.std.proofs.Common.{arith}
use Rattle.sparse_block.proofs.ClearingLemmas.{lists_in-dead}
use Rattle.column_reduction.proofs.reducing.kill.Goals as goal

pub returns : goal.returns
returns c = lists_in-dead c.args.alive.now c.args.k c.args.place c.index-alive-k-2.result (omega arith)
