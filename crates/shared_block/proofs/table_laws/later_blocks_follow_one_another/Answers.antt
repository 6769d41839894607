use Rattle.shared_block.proofs.AllBlocks.{later-self, later-trans}
use Rattle.shared_block.proofs.table_laws.later_blocks_follow_one_another.Goals as goal

pub returns-clause-same : goal.returns-clause-same
returns-clause-same c = later-self

pub returns-clause-twice : goal.returns-clause-twice
returns-clause-twice c = later-trans
