use Rattle.std.proofs.Common.{arith}
use Rattle.column_reduction.proofs.Lefts.{left-less, left-whole}
use Rattle.column_reduction.proofs.reduction_laws.reduced_columns_may_be_taken_away.Goals as goal

pub returns-clause-whole : goal.returns-clause-whole
returns-clause-whole c = left-whole

pub returns-clause-less : goal.returns-clause-less
returns-clause-less c =
    λ p reduced whole left less at factor none field columns within is_left taken.
    left-less p reduced whole left less at factor none (omega (arith, field.above_one)) columns.apart within is_left taken
