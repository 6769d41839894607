use Rattle.std.proofs.lemmas.Bool.Decides.{nat_tests}
use Rattle.std.proofs.Common.{arith}
use Rattle.face_walk.proofs.laws.arcs.worked_arcs.Goals as goal

pub returns : goal.returns
returns = grind (arith, nat_tests)
