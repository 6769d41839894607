use Rattle.square_laws.proofs.BlockComplexes.{IsComplex-block}
use Rattle.square_laws.proofs.laws.blocks.blocks_are_complexes.Goals as goal

pub returns : goal.returns
returns c = IsComplex-block
