use Rattle.std.proofs.Common.{◌≡◌, ◌≤◌, take, map, length, slice_index}
use Rattle.crossing_maps.proofs.bridges.strips_on.Given as goal

abbrev pub invariant-strips : goal.invariant-strips
invariant-strips l = record {
  names : l.made.items ≡ map (slice_index l.classes) (take l.strip-index l.strips);
  bound : length l.made.items ≤ l.strip-index;
}
