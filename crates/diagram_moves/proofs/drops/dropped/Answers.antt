use Rattle.std.proofs.lemmas.Bool.Decides.{nat_tests}
use Rattle.std.proofs.Common.{arith}
use Rattle.diagram_moves.proofs.DropLemmas.{dropped_is}
use Rattle.diagram_moves.proofs.drops.dropped.Goals as goal

pub returns : goal.returns
returns = grind (arith, nat_tests, dropped_is)
