-- Clause by clause, since together they pass the bound on steps.
use Rattle.std.proofs.Common.{refl}
use Rattle.std.specs.Fmt.{digits}
use Rattle.plain_table.proofs.worked.polynomials.known_state_sums.Goals as goal

pub returns-clause-empty : goal.returns-clause-empty
unfolding digits
returns-clause-empty c = refl

pub returns-clause-loop_alone : goal.returns-clause-loop_alone
unfolding digits
returns-clause-loop_alone c = refl

pub returns-clause-curled : goal.returns-clause-curled
unfolding digits
returns-clause-curled c = refl

pub returns-clause-hopf : goal.returns-clause-hopf
unfolding digits
returns-clause-hopf c = refl

pub returns-clause-three : goal.returns-clause-three
unfolding digits
returns-clause-three c = refl

pub returns-clause-four : goal.returns-clause-four
unfolding digits
returns-clause-four c = refl

pub returns-clause-euler_empty : goal.returns-clause-euler_empty
returns-clause-euler_empty c = refl

pub returns-clause-euler_loop_alone : goal.returns-clause-euler_loop_alone
returns-clause-euler_loop_alone c = refl

pub returns-clause-euler_curled : goal.returns-clause-euler_curled
returns-clause-euler_curled c = refl

pub returns-clause-euler_hopf : goal.returns-clause-euler_hopf
returns-clause-euler_hopf c = refl

pub returns-clause-euler_three : goal.returns-clause-euler_three
returns-clause-euler_three c = refl

pub returns-clause-euler_four : goal.returns-clause-euler_four
returns-clause-euler_four c = refl

pub returns-clause-euler_three_over_three : goal.returns-clause-euler_three_over_three
returns-clause-euler_three_over_three c = refl
