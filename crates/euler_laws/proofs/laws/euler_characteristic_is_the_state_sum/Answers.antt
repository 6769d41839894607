use Rattle.jones_sum.proofs.CoefficientLemmas.{polynomial_text-agree}
use Rattle.kh_types.specs.StateSum.{euler, state_sum}
use Rattle.kh_types.specs.Table.{table}
use Rattle.euler_laws.proofs.TableSums.{euler-table}
use Rattle.euler_laws.proofs.laws.euler_characteristic_is_the_state_sum.Goals as goal

pub returns-clause-coefficient : goal.returns-clause-coefficient
returns-clause-coefficient c = euler-table

pub returns-clause-line : goal.returns-clause-line
returns-clause-line c =
    λ p code field is few.
    polynomial_text-agree (euler (table p code)) (state_sum code) (λ exponent within. euler-table p code exponent field is few)
