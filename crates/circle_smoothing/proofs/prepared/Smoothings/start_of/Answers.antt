use Rattle.std.proofs.lemmas.Bool.Decides.{nat_tests}
use Rattle.std.proofs.Common.{arith}
use Rattle.circle_smoothing.proofs.prepared.Smoothings.start_of.Goals as goal

pub bounds-deref-arc : goal.bounds-deref-arc
bounds-deref-arc = grind (arith, nat_tests)

pub returns-clause-below : goal.returns-clause-below
returns-clause-below = grind (arith, nat_tests)

pub returns-clause-on_arc : goal.returns-clause-on_arc
returns-clause-on_arc = grind (arith, nat_tests)
