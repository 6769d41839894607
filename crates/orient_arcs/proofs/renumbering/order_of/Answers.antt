use Rattle.std.proofs.lemmas.Bool.Decides.{nat_tests}
use Rattle.std.proofs.Common.{arith}
use Rattle.orient_arcs.proofs.ComponentSteps.{length-order_below}
use Rattle.orient_arcs.proofs.renumbering.order_of.Goals as goal

pub returns-clause-few : goal.returns-clause-few
returns-clause-few = grind (arith, nat_tests, length-order_below)
