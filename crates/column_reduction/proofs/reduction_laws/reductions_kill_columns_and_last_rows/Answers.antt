use Rattle.column_reduction.proofs.Others.{next-alive, own-alive, previous-alive}
use Rattle.column_reduction.proofs.reduction_laws.reductions_kill_columns_and_last_rows.Goals as goal

pub returns-clause-columns : goal.returns-clause-columns
returns-clause-columns c =
    λ p before after i count reduced place so_far.
    own-alive p before after i count reduced so_far place

pub returns-clause-rows : goal.returns-clause-rows
returns-clause-rows c =
    λ p before after i count reduced place so_far.
    next-alive p before after i count reduced so_far place

pub returns-clause-previous : goal.returns-clause-previous
returns-clause-previous c = previous-alive
