use Rattle.kh_types.proofs.AcceptedLemmas.{IsAccepted-is}
use Rattle.link_algebra.proofs.UnitedAccepted.{accepted-both, component_count-both}
use Rattle.link_algebra.proofs.UnitedSigns.{plus-both}
use Rattle.link_algebra.proofs.UnitedSums.{minus-both}
use Rattle.link_algebra.proofs.laws.unions_are_accepted.Goals as goal

pub returns-clause-accepted : goal.returns-clause-accepted
returns-clause-accepted c = accepted-both

pub returns-clause-components : goal.returns-clause-components
returns-clause-components c = λ first second first_is second_is.
    component_count-both first second ((IsAccepted-is first).0 first_is).directed ((IsAccepted-is second).0 second_is).directed

pub returns-clause-plus : goal.returns-clause-plus
returns-clause-plus c = plus-both

pub returns-clause-minus : goal.returns-clause-minus
returns-clause-minus c = λ first second first_is second_is. minus-both first second (plus-both first second first_is second_is)
