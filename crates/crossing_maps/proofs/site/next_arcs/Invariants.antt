use Rattle.std.proofs.Common.{◌≡◌, ◌≤◌, length}
use Rattle.std.specs.List.{filter, range_with_len}
use Rattle.crossing_maps.specs.Sites.{is_next_by}
use Rattle.crossing_maps.proofs.site.next_arcs.Given as goal

abbrev pub invariant-arcs : goal.invariant-arcs
invariant-arcs l = record {
  passed : l.made.items ≡ filter (is_next_by l.opened l.crossing) (range_with_len 0 l.arc);
  bound : length l.made.items ≤ l.arc;
}
