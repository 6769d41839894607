use Rattle.link_algebra.proofs.TurnedCodes.{mirror-accepted, mirror-plus, mirror-signs}
use Rattle.link_algebra.proofs.Twice.{mirror-components}
use Rattle.link_algebra.proofs.laws.mirrors_are_accepted.Goals as goal

pub returns-clause-accepted : goal.returns-clause-accepted
returns-clause-accepted c = mirror-accepted

pub returns-clause-signs : goal.returns-clause-signs
returns-clause-signs c = λ code crossing holds is. mirror-signs code holds crossing is

pub returns-clause-plus : goal.returns-clause-plus
returns-clause-plus c = mirror-plus

pub returns-clause-components : goal.returns-clause-components
returns-clause-components c = mirror-components
