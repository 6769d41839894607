use Rattle.std.proofs.Common.{◌≡◌, ◌≤◌}
use Rattle.std.specs.List.{filter, range_with_len}
use Rattle.arrayvec.specs.ArrayVec.{array_vec_len}
use Rattle.kh_types.specs.Classes.{is_least}
use Rattle.plain_table.proofs.circles.circle_names.Given as goal

abbrev pub invariant-names : goal.invariant-names
invariant-names l =
    record {
      names : l.names.items ≡ filter (is_least l.circles) (range_with_len 1 l.place);
      size : array_vec_len l.names ≤ l.place;
    }
