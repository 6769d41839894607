use Rattle.std.proofs.Common.{◌≡◌, ◌≤◌, length}
use Rattle.kh_types.specs.CircleNumbers.{names_to}
use Rattle.circle_smoothing.specs.CircleLists.{numbers_to}
use Rattle.circle_smoothing.proofs.numbering.numbers_of.Given as goal

abbrev pub invariant-names : goal.invariant-names
invariant-names l = record {
  numbers : l.numbers.items ≡ numbers_to l.circles l.place;
  count : l.count ≡ length (names_to l.circles l.place);
  within : l.count ≤ l.place;
}
