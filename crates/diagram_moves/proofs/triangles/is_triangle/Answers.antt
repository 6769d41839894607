use Rattle.std.proofs.lemmas.Bool.Decides.{nat_tests}
use Rattle.std.proofs.Common.{arith}
use Rattle.diagram_moves.proofs.Fours.{triangle_is}
use Rattle.diagram_moves.proofs.triangles.is_triangle.Goals as goal

pub returns : goal.returns
returns = grind (arith, nat_tests, triangle_is)
