use Rattle.std.proofs.Common.{refl}
use Rattle.kh_types.specs.Acceptance.{accepted, first_fault}
use Rattle.kink_and_finger_laws.proofs.worked_fingers.known_fingers.Goals as goal

pub returns-clause-outside_accepted : goal.returns-clause-outside_accepted
unfolding first_fault accepted
returns-clause-outside_accepted c = refl

pub returns-clause-across_first : goal.returns-clause-across_first
unfolding first_fault accepted
returns-clause-across_first c = refl

pub returns-clause-between : goal.returns-clause-between
unfolding first_fault accepted
returns-clause-between c = refl

pub returns-clause-between_other : goal.returns-clause-between_other
unfolding first_fault accepted
returns-clause-between_other c = refl

pub returns-clause-three : goal.returns-clause-three
unfolding first_fault accepted
returns-clause-three c = refl
