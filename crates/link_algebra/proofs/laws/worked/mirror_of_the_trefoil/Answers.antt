use Rattle.std.proofs.Common.{refl}
use Rattle.link_algebra.proofs.laws.worked.mirror_of_the_trefoil.Goals as goal

pub returns-clause-code : goal.returns-clause-code
returns-clause-code c = refl

pub returns-clause-again : goal.returns-clause-again
returns-clause-again c = refl

pub returns-clause-last : goal.returns-clause-last
returns-clause-last c = refl

pub returns-clause-last_opposite : goal.returns-clause-last_opposite
returns-clause-last_opposite c = refl

pub returns-clause-torsion : goal.returns-clause-torsion
returns-clause-torsion c = refl
