use Rattle.std.proofs.lemmas.Bool.Decides.{nat_tests}
use Rattle.std.proofs.Common.{arith}
use Rattle.orient_arcs.proofs.laws.known_diagrams_have_these_components.Goals as goal

pub returns : goal.returns
returns = grind (arith, nat_tests)
