use Rattle.shared_block.proofs.AllBlocks.{AreBlocksOf-later, AreBlocksOf-opening}
use Rattle.shared_block.proofs.table_laws.blocks_stay_those_of_their_diagram.Goals as goal

pub returns-clause-opening : goal.returns-clause-opening
returns-clause-opening c = AreBlocksOf-opening

pub returns-clause-later : goal.returns-clause-later
returns-clause-later c = AreBlocksOf-later
