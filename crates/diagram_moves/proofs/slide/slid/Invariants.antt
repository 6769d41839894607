use Rattle.std.proofs.Common.{◌≡◌}
use Rattle.diagram_moves.proofs.MadeSoFar.{slid_to}
use Rattle.diagram_moves.proofs.slide.slid.Given as goal

abbrev pub invariant-places : goal.invariant-places
invariant-places l = l.crossings.items ≡ slid_to l.diagram.crossings l.triangle.x l.triangle.y l.triangle.z l.place
