use Rattle.std.proofs.Common.{◌≡◌, ◌≤◌, take, length}
use Rattle.std.specs.List.{filter}
use Rattle.kh_types.specs.Classes.{is_least}
use Rattle.added_crossing_laws.specs.Steps.{is_none_in}
use Rattle.crossing_maps.proofs.closed.closed_by.Given as goal

abbrev pub invariant-arcs : goal.invariant-arcs
invariant-arcs l = record {
  closed : l.made.items ≡ filter (is_none_in l.opened l.classes) (filter (is_least l.classes) (take l.arc-index l.near));
  bound : length l.made.items ≤ l.arc-index;
}
