use Rattle.kh_types.proofs.ClassLemmas.{classes-together, classes-finest}
use Rattle.kh_types.proofs.laws.classes.classes_are_finest.Goals as goal

pub returns-clause-together : goal.returns-clause-together
returns-clause-together c = classes-together

pub returns-clause-finest : goal.returns-clause-finest
returns-clause-finest c = classes-finest
