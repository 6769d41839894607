use Rattle.std.proofs.Common.{◌≡◌, ◌≤◌, take, length}
use Rattle.std.specs.List.{filter}
use Rattle.tangle_maps.specs.Pairings.{leads}
use Rattle.crossing_maps.proofs.between.first_ends.Given as goal

abbrev pub invariant-arcs : goal.invariant-arcs
invariant-arcs l = record {
  ends : l.made.items ≡ filter (leads l.pairing.partners) (take l.arc-index l.arcs);
  bound : length l.made.items ≤ l.arc-index;
}
