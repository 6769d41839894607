use Rattle.std.proofs.Common.{sym, refl, arith, true≢false}
use Rattle.kh_types.specs.Complex.{cancel}
use Rattle.kh_types.proofs.ComplexLemmas.{complex-from_test, test-from_complex}
use Rattle.history_laws.specs.OverFour.{over_four, pivot_two}
use Rattle.history_laws.proofs.laws.inverses_are_needed.Goals as goal

pub returns-clause-before : goal.returns-clause-before
returns-clause-before c = complex-from_test 4 over_four (omega arith) refl

pub returns-clause-pivot : goal.returns-clause-pivot
returns-clause-pivot c = λ same. omega arith

pub returns-clause-after : goal.returns-clause-after
returns-clause-after c = λ is. true≢false (sym (test-from_complex 4 (cancel 4 over_four pivot_two) is))
