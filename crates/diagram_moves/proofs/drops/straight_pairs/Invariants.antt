use Rattle.std.proofs.Common.{◌≡◌, ◌≤◌, ◌*◌, length}
use Rattle.diagram_moves.proofs.MadeSoFar.{straight_to}
use Rattle.diagram_moves.proofs.drops.straight_pairs.Given as goal

abbrev pub invariant-places : goal.invariant-places
invariant-places l = record {
  pairs : l.pairs.items ≡ straight_to l.diagram.crossings l.gone.first l.gone.second l.place;
  few : length l.pairs.items ≤ 2 * l.place;
}
