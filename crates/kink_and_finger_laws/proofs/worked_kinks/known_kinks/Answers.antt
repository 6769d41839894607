use Rattle.std.proofs.Common.{refl}
use Rattle.kh_types.specs.Acceptance.{accepted, first_fault}
use Rattle.kink_and_finger_laws.proofs.worked_kinks.known_kinks.Goals as goal

pub returns-clause-under_plus_accepted : goal.returns-clause-under_plus_accepted
unfolding first_fault accepted
returns-clause-under_plus_accepted c = refl

pub returns-clause-over_minus_accepted : goal.returns-clause-over_minus_accepted
unfolding first_fault accepted
returns-clause-over_minus_accepted c = refl

pub returns-clause-circle_accepted : goal.returns-clause-circle_accepted
unfolding first_fault accepted
returns-clause-circle_accepted c = refl
