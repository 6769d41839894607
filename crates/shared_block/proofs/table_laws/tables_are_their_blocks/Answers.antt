use Rattle.kh_types.specs.declared.limits.TheConstants.{EXPONENT}
use Rattle.cube_signs.specs.Blocks.{block_degrees}
use Rattle.shared_block.proofs.Blocks.{rows-blocks, rows_at-no_block}
use Rattle.shared_block.proofs.table_laws.tables_are_their_blocks.Goals as goal

pub returns-clause-rows : goal.returns-clause-rows
unfolding block_degrees
returns-clause-rows c = λ p code. rows-blocks p code EXPONENT

pub returns-clause-none : goal.returns-clause-none
returns-clause-none c = rows_at-no_block
