use Rattle.column_reduction.proofs.Endings.{ends-left, value-left, zero-left}
use Rattle.column_reduction.proofs.reduction_laws.lines_end_with_what_is_left.Goals as goal

pub returns-clause-ends : goal.returns-clause-ends
returns-clause-ends c =
    λ p reduced line left row field columns is_left left_below dead below ends free.
    ends-left p reduced line left field columns is_left left_below dead row below ends free

pub returns-clause-number : goal.returns-clause-number
returns-clause-number c =
    λ p reduced line left row field columns is_left left_below dead below ends free.
    value-left p reduced line left field columns is_left left_below dead row below ends free

pub returns-clause-zero : goal.returns-clause-zero
returns-clause-zero c = zero-left
