use Rattle.square_laws.proofs.BlockComplexes.{alive-block, entry-block}
use Rattle.square_laws.proofs.laws.blocks.blocks_have_all_generators.Goals as goal

pub returns-clause-places : goal.returns-clause-places
returns-clause-places c = alive-block

pub returns-clause-entries : goal.returns-clause-entries
returns-clause-entries c = entry-block
