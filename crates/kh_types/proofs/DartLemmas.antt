-- Searches over darts as searches over their places.
use Rattle.std.proofs.lemmas.Bool.Decides.{nat_tests}
use Rattle.std.proofs.Common.{arith, ◌≡◌, ℕ, ◌*◌, List, length, Bool, ◌/◌}
use Rattle.std.specs.Prelude.{nat_eq}
use Rattle.std.specs.List.{filter, range_with_len}
use Rattle.std.proofs.lemmas.List.Sums.{length-filter}
use Rattle.kh_types.specs.declared.dart.Dart.{Dart}
use Rattle.kh_types.specs.Darts.{dart_at, arc_of, times, is_partner, turned}
use Rattle.kh_types.proofs.Lists.{count_by-map}

-- whether the dart at a place is of an arc, or is the partner of a dart
abbrev pub is_dart_of : List (List ℕ) → ℕ → ℕ → Bool
is_dart_of crossings arc place = nat_eq (arc_of crossings (dart_at place)) arc

abbrev pub is_partner_at : List (List ℕ) → Dart → ℕ → Bool
is_partner_at crossings dart place = is_partner crossings dart (dart_at place)

-- the places of the darts of an arc are as many as its darts
pub times_by_places : (crossings : List (List ℕ)) (arc : ℕ)
    → length (filter (is_dart_of crossings arc) (range_with_len 0 (4 * length crossings))) ≡ times crossings arc
times_by_places crossings arc = grind (arith, nat_tests, length-filter, count_by-map)

-- one slot on is at the same crossing
pub turned-crossing : (place : ℕ) → turned place / 4 ≡ place / 4
turned-crossing place = omega arith
