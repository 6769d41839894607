use Rattle.std.proofs.lemmas.Bool.Decides.{nat_tests}
use Rattle.std.proofs.Common.{arith}
use Rattle.orient_arcs.proofs.StepLemmas.{bound_of_take}
use Rattle.orient_arcs.proofs.renumbering.bound_of.Goals as goal

pub passes-preserved : goal.passes-preserved
passes-preserved = grind (arith, nat_tests, bound_of_take)
