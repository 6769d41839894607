use Rattle.column_reduction.proofs.Steps.{ends-last, pivot-last, reduced-pivot}
use Rattle.column_reduction.proofs.reduction_laws.last_entries_are_pivots.Goals as goal

pub returns-clause-pivot : goal.returns-clause-pivot
returns-clause-pivot c =
    λ p before after i count last reduced values field is so_far is_left below ends free.
    pivot-last p before after i count reduced field is so_far values is_left last below ends free

pub returns-clause-ends : goal.returns-clause-ends
returns-clause-ends c =
    λ p before after i count last reduced values field is so_far is_left below ends free.
    ends-last p before after i count reduced field is so_far values is_left last below ends free

pub returns-clause-reduced : goal.returns-clause-reduced
returns-clause-reduced c =
    λ p before after i count last reduced values field is so_far is_left below ends free.
    reduced-pivot p before after i count reduced field is so_far values is_left last below ends free
