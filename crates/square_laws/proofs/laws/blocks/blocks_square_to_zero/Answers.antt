use Rattle.square_laws.proofs.BlockComplexes.{product_entry-block}
use Rattle.square_laws.proofs.laws.blocks.blocks_square_to_zero.Goals as goal

pub returns : goal.returns
returns c = product_entry-block
