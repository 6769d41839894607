use Rattle.std.proofs.Common.{◌≡◌, ◌+◌, ◌≤◌, ◌++◌, take, length}
use Rattle.crossing_maps.proofs.between.strips_with.Given as goal

abbrev pub invariant-arcs : goal.invariant-arcs
invariant-arcs l = record {
  strips : l.made.items ≡ l.initial.made.items ++ take l.other-index l.arcs;
  bound : length l.made.items ≤ l.other-index + 2;
}
