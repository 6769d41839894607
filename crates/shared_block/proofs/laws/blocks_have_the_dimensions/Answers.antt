use Rattle.shared_block.proofs.BlockDimensions.{dimension_of-block}
use Rattle.shared_block.proofs.laws.blocks_have_the_dimensions.Goals as goal

pub returns : goal.returns
returns c = dimension_of-block
