use Rattle.std.proofs.lemmas.Bool.Decides.{nat_tests}
use Rattle.std.proofs.Common.{arith}
use Rattle.circle_smoothing.proofs.laws.known.known_edges.Goals as goal

pub returns : goal.returns
returns = grind (arith, nat_tests)
