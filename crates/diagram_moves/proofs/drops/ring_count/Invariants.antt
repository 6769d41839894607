use Rattle.std.proofs.Common.{◌≡◌, ◌≤◌}
use Rattle.std.specs.List.{count_by, range_with_len}
use Rattle.diagram_moves.specs.DropSteps.{is_ring_in}
use Rattle.diagram_moves.proofs.drops.ring_count.Given as goal

abbrev pub invariant-arcs : goal.invariant-arcs
invariant-arcs l = record {
  count : l.count ≡ count_by (is_ring_in l.names l.kept) (range_with_len 1 l.before);
  few : l.count ≤ l.before;
}
