use Rattle.std.proofs.lemmas.Bool.Decides.{nat_tests}
use Rattle.std.proofs.Common.{arith}
use Rattle.std.proofs.lemmas.List.Elements.{recursion_from_All}
use Rattle.diagram_moves.proofs.KinksBack.{added_kinks_are_dropped}
use Rattle.diagram_moves.proofs.taken_back.added_kinks_are_dropped.Goals as goal

pub returns : goal.returns
returns = grind (arith, nat_tests, added_kinks_are_dropped, recursion_from_All)
