use Rattle.std.proofs.Common.{refl}
use Rattle.kh_types.specs.Acceptance.{accepted, first_fault}
use Rattle.union_laws.proofs.laws.worked.known_pieces.Goals as goal

pub returns-clause-accepted : goal.returns-clause-accepted
unfolding accepted first_fault
returns-clause-accepted c = refl
