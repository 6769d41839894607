use Rattle.std.proofs.Common.{◌≡◌, ◌++◌}
use Rattle.cancel_log.proofs.WrittenLogs.{block_to}
use Rattle.cancel_log.proofs.writing.push_block.Given as goal

abbrev pub invariant-pivots : goal.invariant-pivots
invariant-pivots g l = l.text.items ≡ l.fn.text.items ++ block_to l.held l.k
