use Rattle.std.proofs.Common.{refl}
use Rattle.cube_signs.proofs.BlockEnds.{generators-between, high-some, low-some}
use Rattle.cube_signs.proofs.laws.blocks.blocks_end_at_generators.Goals as goal

pub returns-clause-least : goal.returns-clause-least
returns-clause-least c = low-some

pub returns-clause-greatest : goal.returns-clause-greatest
returns-clause-greatest c = high-some

pub returns-clause-none_outside : goal.returns-clause-none_outside
returns-clause-none_outside c = generators-between

pub returns-clause-three : goal.returns-clause-three
returns-clause-three c = (refl, refl)
