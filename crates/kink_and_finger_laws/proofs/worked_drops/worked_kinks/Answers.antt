use Rattle.std.proofs.Common.{refl}
use Rattle.kh_types.specs.Acceptance.{accepted, first_fault}
use Rattle.kink_and_finger_laws.proofs.worked_drops.worked_kinks.Goals as goal

pub returns-clause-accepted : goal.returns-clause-accepted
unfolding accepted first_fault
returns-clause-accepted c = refl
