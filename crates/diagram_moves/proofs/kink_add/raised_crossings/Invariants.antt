use Rattle.std.proofs.Common.{◌≡◌}
use Rattle.diagram_moves.proofs.MadeSoFar.{kinked_to}
use Rattle.diagram_moves.proofs.kink_add.raised_crossings.Given as goal

abbrev pub invariant-crossings : goal.invariant-crossings
invariant-crossings l = l.crossings.items ≡ kinked_to l.diagram.crossings l.arc l.place
