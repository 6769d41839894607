use Rattle.kh_types.proofs.AcceptedLemmas.{IsAccepted-is}
use Rattle.kh_types.proofs.QuantumDegrees.{quantum_degree-accepted, quantum_degree-exponent, generators_at-outside}
use Rattle.kh_types.proofs.laws.sizes.quantum_degrees_are_bounded.Goals as goal

pub returns-clause-any : goal.returns-clause-any
returns-clause-any c = λ code generator is. quantum_degree-accepted code generator ((IsAccepted-is code).0 is)

pub returns-clause-within : goal.returns-clause-within
returns-clause-within c = λ code generator is. quantum_degree-exponent code generator ((IsAccepted-is code).0 is)

pub returns-clause-outside : goal.returns-clause-outside
returns-clause-outside c = λ code i j is. generators_at-outside code i j ((IsAccepted-is code).0 is)
