use Rattle.std.proofs.Common.{◌≡◌, ◌≤◌}
use Rattle.std.specs.List.{filter, range_with_len}
use Rattle.arrayvec.specs.ArrayVec.{array_vec_len}
use Rattle.kh_types.specs.Classes.{is_least}
use Rattle.orient_arcs.proofs.numbered.first_arcs.Given as goal

abbrev pub invariant-arcs : goal.invariant-arcs
invariant-arcs l = record {
  firsts : l.firsts.items ≡ filter (is_least l.components) (range_with_len 1 l.before);
  size : array_vec_len l.firsts ≤ l.before;
}
