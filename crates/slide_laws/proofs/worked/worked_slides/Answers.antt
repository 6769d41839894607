use Rattle.std.proofs.Common.{refl}
use Rattle.kh_types.specs.Acceptance.{accepted, first_fault}
use Rattle.slide_laws.proofs.worked.worked_slides.Goals as goal

pub returns-clause-kinks_accepted : goal.returns-clause-kinks_accepted
unfolding first_fault accepted
returns-clause-kinks_accepted c = refl

pub returns-clause-over_accepted : goal.returns-clause-over_accepted
unfolding first_fault accepted
returns-clause-over_accepted c = refl

pub returns-clause-four_accepted : goal.returns-clause-four_accepted
unfolding first_fault accepted
returns-clause-four_accepted c = refl

pub returns-clause-hopf_accepted : goal.returns-clause-hopf_accepted
unfolding first_fault accepted
returns-clause-hopf_accepted c = refl

pub returns-clause-circle_accepted : goal.returns-clause-circle_accepted
unfolding first_fault accepted
returns-clause-circle_accepted c = refl
