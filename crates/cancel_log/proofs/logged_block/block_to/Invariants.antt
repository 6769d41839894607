use Rattle.std.proofs.Common.{◌≡◌}
use Rattle.cancel_log.specs.LoggedBlocks.{named_of}
use Rattle.cancel_log.proofs.logged_block.block_to.Given as goal

abbrev pub invariant-pivots : goal.invariant-pivots
invariant-pivots g l = l.made ≡ named_of l.held l.k
