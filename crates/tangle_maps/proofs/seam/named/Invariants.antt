use Rattle.std.proofs.Common.{◌≡◌, ◌≤◌, take, map, length, slice_index}
use Rattle.tangle_maps.proofs.seam.named.Given as goal

abbrev pub invariant-arcs : goal.invariant-arcs
invariant-arcs l = record {
  names : l.made.items ≡ map (slice_index l.names) (take l.arc-index l.arcs);
  bound : length l.made.items ≤ l.arc-index;
}
