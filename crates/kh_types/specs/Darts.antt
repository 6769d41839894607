-- Darts, the ends of arcs.
use Rattle.std.specs.Prelude.{◌≡◌, ◌≢◌, ◌⊎◌, ℕ, ◌+◌, ◌*◌, ◌/◌, ◌%◌, ◌<◌, List, length, map, nat_eq, Bool, not, ◌&&◌, unwrap_or}
use Rattle.std.specs.List.{find, count_by, range_with_len}
use Rattle.kh_types.specs.Code.{arc_in, place_of, slots_of, IsCrossing, IsArc}
use Rattle.kh_types.specs.declared.dart.Dart.{Dart}

-- darts are ordered by crossing, then by slot: the dart at a place of this order
abbrev pub dart_at : ℕ → Dart
dart_at place = record { crossing = place / 4 + 1; slot = place % 4 }

-- the place of a dart in this order
abbrev pub dart_place : Dart → ℕ
dart_place dart = 4 * place_of dart.crossing + dart.slot

-- n crossings have 4n darts
abbrev pub dart_count : List (List ℕ) → ℕ
dart_count crossings = 4 * length crossings

-- all darts, in order
abbrev pub darts : List (List ℕ) → List Dart
darts crossings = map dart_at (range_with_len 0 (dart_count crossings))

-- a dart is one of the code's: its crossing is one, and its slot is one of the four
pub record IsDart (crossings : List (List ℕ)) (dart : Dart) : Type 0 where
  pub crossing : IsCrossing crossings dart.crossing
  pub slot : dart.slot < 4

-- the arc of a dart
abbrev pub arc_of : List (List ℕ) → Dart → ℕ
arc_of crossings dart = arc_in (slots_of crossings dart.crossing) dart.slot

-- how often a number stands in a code: how many darts are of this arc
abbrev pub times : List (List ℕ) → ℕ → ℕ
times crossings arc = count_by (λ dart. nat_eq (arc_of crossings dart) arc) (darts crossings)

-- the first dart of an arc
abbrev pub first_dart : List (List ℕ) → ℕ → Dart
first_dart crossings arc = unwrap_or (find (λ dart. nat_eq (arc_of crossings dart) arc) (darts crossings)) (dart_at 0)

-- whether two darts are one: at the same crossing and the same slot
abbrev pub is_same_dart : Dart → Dart → Bool
is_same_dart dart other = nat_eq dart.crossing other.crossing && nat_eq dart.slot other.slot

-- whether another dart is of the same arc
abbrev pub is_partner : List (List ℕ) → Dart → Dart → Bool
is_partner crossings dart other = nat_eq (arc_of crossings other) (arc_of crossings dart) && not (is_same_dart other dart)

-- the other dart of a dart's arc, where each arc stands twice
abbrev pub partner : List (List ℕ) → Dart → Dart
partner crossings dart = unwrap_or (find (is_partner crossings dart) (darts crossings)) dart

-- the same by places: the place of the other dart of the arc of the dart at a place
abbrev pub partner_at : List (List ℕ) → ℕ → ℕ
partner_at crossings place = dart_place (partner crossings (dart_at place))

-- the place of the dart at the slot before, round the same crossing
abbrev pub turned : ℕ → ℕ
turned place = 4 * (place / 4) + (place % 4 + 3) % 4

-- the dart that follows in a face, by places, for a partner function of places: from the other end of the arc on to the slot
-- before it, round the crossing; a dart without an arc is its own partner (a face lies to the left of each arc that leaves along it)
abbrev pub face_step : (ℕ → ℕ) → ℕ → ℕ
face_step partner place = turned (partner place)

-- each slot holds an arc, and each arc stands twice
pub record HasArcsTwice (crossings : List (List ℕ)) : Type 0 where
  pub slots : (dart : Dart) → IsDart crossings dart → IsArc crossings (arc_of crossings dart)
  pub twice : (arc : ℕ) → IsArc crossings arc → times crossings arc ≡ 2

-- a dart of the code on an arc
pub record IsDartOf (crossings : List (List ℕ)) (arc : ℕ) (dart : Dart) : Type 0 where
  pub within : IsDart crossings dart
  pub on_arc : arc_of crossings dart ≡ arc

-- another dart of the code on the same arc
pub record IsOtherDart (crossings : List (List ℕ)) (dart other : Dart) : Type 0 where
  pub within : IsDart crossings other
  pub differs : other ≢ dart
  pub same_arc : arc_of crossings other ≡ arc_of crossings dart

-- the darts of a code are partners in pairs: each arc has a first dart, the partner of a dart is another dart of its arc, there is
-- no third dart of that arc, and the partner's partner is the dart itself
pub record HasPairedDarts (crossings : List (List ℕ)) : Type 0 where
  pub first : (arc : ℕ) → IsArc crossings arc → IsDartOf crossings arc (first_dart crossings arc)
  pub other : (dart : Dart) → IsDart crossings dart → IsOtherDart crossings dart (partner crossings dart)
  pub two : (dart other : Dart) → IsDart crossings dart → IsDartOf crossings (arc_of crossings dart) other
      → (other ≡ dart) ⊎ (other ≡ partner crossings dart)
  pub back : (dart : Dart) → IsDart crossings dart → partner crossings (partner crossings dart) ≡ dart

-- the places below m are partners in pairs, or alone
pub record IsPairing (m : ℕ) (partner : ℕ → ℕ) : Type 0 where
  pub below : (place : ℕ) → place < m → partner place < m
  pub back : (place : ℕ) → place < m → partner (partner place) ≡ place
