use Rattle.std.proofs.Common.{◌≡◌}
use Rattle.diagram_moves.proofs.MadeSoFar.{fingered_to}
use Rattle.diagram_moves.proofs.finger_add.moved_crossings.Given as goal

abbrev pub invariant-crossings : goal.invariant-crossings
invariant-crossings l = l.crossings.items ≡ fingered_to l.diagram.crossings l.finger.over l.finger.under l.place
