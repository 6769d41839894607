use Rattle.std.proofs.Common.{◌≡◌, take}
use Rattle.shared_block.proofs.AllBlocks.{opened}
use Rattle.shared_block.proofs.all_blocks.blocks_of.Given as goal

abbrev pub invariant-degrees : goal.invariant-degrees
invariant-degrees g l = l.blocks.items ≡ opened l.diagram (take l.k l.degrees.items)
