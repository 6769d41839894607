use Rattle.shared_block.proofs.BlockDimensions.{alive_count-finished}
use Rattle.shared_block.proofs.laws.finished_blocks_have_the_dimensions.Goals as goal

pub returns : goal.returns
returns c = alive_count-finished
