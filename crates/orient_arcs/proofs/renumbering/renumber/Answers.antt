use Rattle.std.proofs.lemmas.Bool.Decides.{nat_tests}
use Rattle.std.proofs.Common.{arith}
use Rattle.orient_arcs.proofs.StepLemmas.{code_is}
use Rattle.orient_arcs.proofs.OneOrder.{AreInOrder-order}
use Rattle.orient_arcs.proofs.renumbering.renumber.Goals as goal

pub returns-clause-code : goal.returns-clause-code
returns-clause-code = grind (arith, nat_tests, code_is)

pub returns-clause-order : goal.returns-clause-order
returns-clause-order = grind (arith, nat_tests, AreInOrder-order, returns-clause-code)
