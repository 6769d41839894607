use Rattle.std.proofs.Common.{refl}
use Rattle.kh_types.specs.Acceptance.{accepted, first_fault}
use Rattle.link_algebra.proofs.laws.worked.union_of_a_curl_and_the_hopf_link.Goals as goal

pub returns-clause-code : goal.returns-clause-code
returns-clause-code c = refl

pub returns-clause-sums : goal.returns-clause-sums
returns-clause-sums c = refl

pub returns-clause-loops : goal.returns-clause-loops
returns-clause-loops c = refl

pub returns-clause-left : goal.returns-clause-left
returns-clause-left c = refl

pub returns-clause-right : goal.returns-clause-right
returns-clause-right c = refl

pub returns-clause-accepted : goal.returns-clause-accepted
unfolding accepted first_fault
returns-clause-accepted c = refl
