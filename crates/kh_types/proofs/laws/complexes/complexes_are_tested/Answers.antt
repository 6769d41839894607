use Rattle.kh_types.proofs.ComplexLemmas.{complex-from_test, test-from_complex}
use Rattle.kh_types.proofs.laws.complexes.complexes_are_tested.Goals as goal

pub returns : goal.returns
returns c = λ p complex positive. (complex-from_test p complex positive, test-from_complex p complex)
