use Rattle.reduced_cube.proofs.ReducedTables.{rows-blocks, rows-none}
use Rattle.reduced_cube.proofs.laws.reduced_tables_are_their_blocks.Goals as goal

pub returns-clause-rows : goal.returns-clause-rows
returns-clause-rows c = rows-blocks

pub returns-clause-none : goal.returns-clause-none
returns-clause-none c = rows-none
