use Rattle.column_reduction.proofs.Steps.{reduced-none}
use Rattle.column_reduction.proofs.reduction_laws.no_column_is_reduced_at_first.Goals as goal

pub returns : goal.returns
returns c = reduced-none
