use Rattle.std.proofs.Common.{◌≡◌, ◌+◌, length}
use Rattle.tangle_scan.proofs.OrderLemmas.{IsTaken}
use Rattle.tangle_scan.proofs.scanning.order.ordered_from.Given as goal

abbrev pub invariant-crossings : goal.invariant-crossings
invariant-crossings l = record {
  taken : IsTaken l.diagram.crossings l.made.items l.left.items;
  size : length l.made.items + length l.left.items ≡ length l.diagram.crossings;
}

abbrev pub decreases-crossings : goal.decreases-crossings
decreases-crossings l = length l.left.items
