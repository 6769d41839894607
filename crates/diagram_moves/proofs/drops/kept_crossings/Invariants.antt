use Rattle.std.proofs.Common.{◌≡◌, ◌≤◌, length}
use Rattle.diagram_moves.specs.DropSteps.{kept_to}
use Rattle.diagram_moves.proofs.drops.kept_crossings.Given as goal

abbrev pub invariant-places : goal.invariant-places
invariant-places l = record {
  crossings : l.crossings.items ≡ kept_to l.diagram.crossings l.names l.gone.first l.gone.second l.place;
  few : length l.crossings.items ≤ l.place;
}
