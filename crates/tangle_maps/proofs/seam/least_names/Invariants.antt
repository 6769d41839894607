use Rattle.std.proofs.Common.{◌≡◌, ◌≤◌, take, map, length, slice_index}
use Rattle.std.specs.List.{filter}
use Rattle.kh_types.specs.Classes.{is_least}
use Rattle.tangle_maps.proofs.seam.least_names.Given as goal

abbrev pub invariant-arcs : goal.invariant-arcs
invariant-arcs l = record {
  least : l.made.items ≡ map (slice_index l.names) (filter (is_least l.classes) (take l.arc-index l.opened));
  bound : length l.made.items ≤ l.arc-index;
}
