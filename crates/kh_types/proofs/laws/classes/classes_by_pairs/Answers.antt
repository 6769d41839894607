use Rattle.std.proofs.Common.{arith}
use Rattle.std.proofs.lemmas.Bool.Decides.{nat_tests}
use Rattle.kh_types.proofs.JoinedClasses.{IsNamed-classes_of, classes_of-same, class_count-apart, classes_of-together}
use Rattle.kh_types.proofs.laws.classes.classes_by_pairs.Goals as goal

pub returns-clause-named : goal.returns-clause-named
returns-clause-named c = IsNamed-classes_of

pub returns-clause-same : goal.returns-clause-same
returns-clause-same c = grind (arith, nat_tests, classes_of-same)

pub returns-clause-apart : goal.returns-clause-apart
returns-clause-apart c = class_count-apart

pub returns-clause-together : goal.returns-clause-together
returns-clause-together c = classes_of-together
