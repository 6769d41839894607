use Rattle.std.proofs.Common.{refl}
use Rattle.link_algebra.proofs.laws.worked.reversal_of_the_trefoil.Goals as goal

pub returns-clause-code : goal.returns-clause-code
returns-clause-code c = refl

pub returns-clause-again : goal.returns-clause-again
returns-clause-again c = refl

pub returns-clause-under : goal.returns-clause-under
returns-clause-under c = refl
