-- Clause by clause, since together they pass the bound on steps.
use Rattle.std.proofs.Common.{refl}
use Rattle.std.specs.Fmt.{digits}
use Rattle.plain_table.proofs.worked.tables.known_tables.Goals as goal

pub returns-clause-empty : goal.returns-clause-empty
unfolding digits
returns-clause-empty c = refl

pub returns-clause-loop_alone : goal.returns-clause-loop_alone
unfolding digits
returns-clause-loop_alone c = refl

pub returns-clause-curled : goal.returns-clause-curled
unfolding digits
returns-clause-curled c = refl

pub returns-clause-apart : goal.returns-clause-apart
unfolding digits
returns-clause-apart c = refl

pub returns-clause-over : goal.returns-clause-over
unfolding digits
returns-clause-over c = refl

pub returns-clause-with_loops : goal.returns-clause-with_loops
unfolding digits
returns-clause-with_loops c = refl

pub returns-clause-hopf : goal.returns-clause-hopf
unfolding digits
returns-clause-hopf c = refl

pub returns-clause-three : goal.returns-clause-three
unfolding digits
returns-clause-three c = refl

pub returns-clause-three_over_three : goal.returns-clause-three_over_three
unfolding digits
returns-clause-three_over_three c = refl

pub returns-clause-four : goal.returns-clause-four
unfolding digits
returns-clause-four c = refl
