use Rattle.reduced_cube.proofs.ReducedBlocks.{IsComplex-reduced}
use Rattle.reduced_cube.proofs.laws.reduced_blocks_are_complexes.Goals as goal

pub returns : goal.returns
returns c = IsComplex-reduced
