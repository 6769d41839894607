use Rattle.std.proofs.Common.{◌≡◌, ◌≤◌, length}
use Rattle.diagram_moves.specs.DropSteps.{signs_to}
use Rattle.diagram_moves.proofs.drops.kept_signs.Given as goal

abbrev pub invariant-places : goal.invariant-places
invariant-places l = record {
  signs : l.signs.items ≡ signs_to l.diagram.crossings l.gone.first l.gone.second l.place;
  few : length l.signs.items ≤ l.place;
}
