use Rattle.column_reduction.proofs.Steps.{reduced-nothing}
use Rattle.column_reduction.proofs.reduction_laws.columns_with_nothing_left_add_no_pivot.Goals as goal

pub returns : goal.returns
returns c =
    λ p before after i count reduced values field is so_far is_left zeros.
    reduced-nothing p before after i count reduced field is so_far values is_left zeros
