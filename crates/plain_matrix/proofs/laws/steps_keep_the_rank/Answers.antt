use Rattle.plain_matrix.proofs.EliminationRanks.{rank-rows}
use Rattle.plain_matrix.proofs.StepLemmas.{rank-row_step, rank-column_step}
use Rattle.plain_matrix.proofs.laws.steps_keep_the_rank.Goals as goal

pub returns-clause-row : goal.returns-clause-row
returns-clause-row c = rank-row_step

pub returns-clause-column : goal.returns-clause-column
returns-clause-column c = rank-column_step

pub returns-clause-order : goal.returns-clause-order
returns-clause-order c = rank-rows
