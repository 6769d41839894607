use Rattle.column_reduction.proofs.Others.{next-entries, other-degrees, previous-entries}
use Rattle.column_reduction.proofs.reduction_laws.reductions_clear_rows_and_columns.Goals as goal

pub returns-clause-next : goal.returns-clause-next
returns-clause-next c =
    λ p before after i count reduced row column so_far.
    next-entries p before after i count reduced so_far row column

pub returns-clause-previous : goal.returns-clause-previous
returns-clause-previous c =
    λ p before after i count reduced row column so_far.
    previous-entries p before after i count reduced so_far row column

pub returns-clause-others : goal.returns-clause-others
returns-clause-others c =
    λ p before after i j count reduced so_far.
    other-degrees p before after i count reduced so_far j
