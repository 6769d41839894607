use Rattle.column_reduction.proofs.Ends.{comes-reduced, no_entry-comes, no_entry-end}
use Rattle.column_reduction.proofs.reduction_laws.reduced_degrees_have_no_entry.Goals as goal

pub returns-clause-comes : goal.returns-clause-comes
returns-clause-comes c = comes-reduced

pub returns-clause-own : goal.returns-clause-own
returns-clause-own c = no_entry-end

pub returns-clause-others : goal.returns-clause-others
returns-clause-others c =
    λ p before after i j count reduced field is so_far.
    no_entry-comes p before after j field is (comes-reduced p before after i count reduced so_far)
