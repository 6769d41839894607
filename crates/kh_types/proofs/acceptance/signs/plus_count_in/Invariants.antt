use Rattle.std.proofs.Common.{◌≡◌, ◌≤◌}
use Rattle.std.specs.List.{count_by, range_with_len}
use Rattle.kh_types.specs.Directions.{is_positive_in}
use Rattle.kh_types.proofs.acceptance.signs.plus_count_in.Given as goal

abbrev pub invariant-loop-place : goal.invariant-loop-place
invariant-loop-place l = record {
  count : l.count ≡ count_by (is_positive_in l.crossings l.components) (range_with_len 1 l.place);
  within : l.count ≤ l.place;
}
