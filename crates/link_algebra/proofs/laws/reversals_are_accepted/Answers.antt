use Rattle.link_algebra.proofs.TurnedCodes.{reversal-accepted, reversal-signs}
use Rattle.link_algebra.proofs.Twice.{reversal-components}
use Rattle.link_algebra.proofs.laws.reversals_are_accepted.Goals as goal

pub returns-clause-accepted : goal.returns-clause-accepted
returns-clause-accepted c = reversal-accepted

pub returns-clause-signs : goal.returns-clause-signs
returns-clause-signs c = λ code crossing holds is. reversal-signs code holds crossing is

pub returns-clause-components : goal.returns-clause-components
returns-clause-components c = reversal-components
