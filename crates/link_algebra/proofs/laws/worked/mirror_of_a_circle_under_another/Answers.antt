use Rattle.std.proofs.Common.{refl}
use Rattle.link_algebra.proofs.laws.worked.mirror_of_a_circle_under_another.Goals as goal

pub returns-clause-exchanged : goal.returns-clause-exchanged
returns-clause-exchanged c = refl

pub returns-clause-twice : goal.returns-clause-twice
returns-clause-twice c = refl

pub returns-clause-thrice : goal.returns-clause-thrice
returns-clause-thrice c = refl

pub returns-clause-again : goal.returns-clause-again
returns-clause-again c = refl
