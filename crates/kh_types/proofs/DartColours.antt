-- A checkerboard choice gives each arc one dart of either colour.
use Rattle.std.proofs.lemmas.Bool.Decides.{nat_tests}
use Rattle.std.proofs.Common.{◌≡◌, ◌≢◌, ℕ, ◌⊎◌, inl, inr, ◌+◌, ◌-◌, ◌*◌, ◌%◌, ◌<◌, ◌∙◌, List, [], length, refl, arith, IsTrue, true}
use Rattle.std.specs.Prelude.{slice_index_or}
use Rattle.kh_types.specs.declared.dart.Dart.{Dart}
use Rattle.kh_types.specs.Code.{Code, IsArc, arc_in, place_of}
use Rattle.kh_types.specs.Bits.{bit}
use Rattle.kh_types.specs.Darts.{arc_of, first_dart, partner, HasArcsTwice}
use Rattle.kh_types.specs.Checkerboard.{solves_at, IsCheckerboard}
use Rattle.kh_types.specs.Colours.{colour, IsColoured}
use Rattle.kh_types.specs.Acceptance.{accepted}
use Rattle.kh_types.proofs.RangeCounts.{list_all-at}
use Rattle.kh_types.proofs.DartPairs.{IsOtherDart-partner, IsDartOf-first_dart, first_dart_or_partner}
use Rattle.kh_types.proofs.AcceptedLemmas.{IsAccepted-is, HasArcsTwice-directed}

-- the two darts of an arc differ in colour where a choice solves its equation
differ-solved : (crossings : List (List ℕ)) (choice arc : ℕ) → solves_at crossings choice arc ≡ true
    → colour choice (first_dart crossings arc) ≢ colour choice (partner crossings (first_dart crossings arc))
differ-solved crossings choice arc solves = grind (arith, nat_tests)

-- of two things of different colours one has a given colour
one_of_two : (x y side : ℕ) → x % 2 ≢ y % 2 → side < 2 → (x % 2 ≡ side) ⊎ (y % 2 ≡ side)
one_of_two x y side differ below = grind (arith, nat_tests)

-- two of two darts that differ in colour are one where they have one colour
one_dart : (choice : ℕ) (first second dart other : Dart) → colour choice first ≢ colour choice second
    → (dart ≡ first) ⊎ (dart ≡ second) → (other ≡ first) ⊎ (other ≡ second) → colour choice dart ≡ colour choice other → dart ≡ other
one_dart choice first second dart other differ is other_is alike = grind (arith, nat_tests)

pub IsColoured-checkerboard : (crossings : List (List ℕ)) (board : IsCheckerboard crossings) → HasArcsTwice crossings
    → IsColoured crossings board.choice
IsColoured-checkerboard crossings board twice =
    let choice = board.choice in
    let differ = λ (arc : ℕ) (is : IsArc crossings arc).
    differ-solved crossings choice arc
    (list_all-at (solves_at crossings choice) 1 (2 * length crossings) arc board.solves is.positive (omega (arith, is.within))) in
    record {
      arcs = twice.slots;
      once = λ dart other is other_is same alike.
          let arc = arc_of crossings other in
          let is_arc = twice.slots other other_is in
          one_dart choice (first_dart crossings arc) (partner crossings (first_dart crossings arc)) dart other (differ arc is_arc)
          (first_dart_or_partner crossings arc dart twice is_arc (record { within = is; on_arc = same }))
          (first_dart_or_partner crossings arc other twice is_arc (record { within = other_is; on_arc = refl })) alike;
      both = λ arc side is below.
          let first = first_dart crossings arc in
          let second = partner crossings first in
          let first_is = IsDartOf-first_dart crossings arc twice is in
          let second_is = IsOtherDart-partner crossings first twice first_is.within in
          elim (one_of_two (bit choice (place_of first.crossing) + first.slot) (bit choice (place_of second.crossing) + second.slot)
          side (differ arc is) below) [
            | inl is_side ↦ (first, first_is, is_side)
            | inr is_side ↦ (
              second,
              record { within = second_is.within; on_arc = second_is.same_arc ∙ first_is.on_arc },
              is_side,
            )
          ];
    }

pub IsColoured-accepted : (code : Code) → IsTrue (accepted code) → (choice : ℕ) × IsColoured code.crossings choice
IsColoured-accepted code holds = grind (arith, nat_tests, IsAccepted-is, IsColoured-checkerboard, HasArcsTwice-directed)

-- the same by places and slots

-- the arc and the colour at a slot of the crossing at a place of the list
abbrev pub arc_at : List (List ℕ) → ℕ → ℕ → ℕ
arc_at crossings place slot = arc_in (slice_index_or crossings place []) slot

abbrev pub colour_at : ℕ → ℕ → ℕ → ℕ
colour_at choice place slot = (bit choice place + slot) % 2

-- the dart there
abbrev pub dart_of : ℕ → ℕ → Dart
dart_of place slot = record { crossing = place + 1; slot = slot }
