-- What holds of the crossings after a slide.
use Rattle.std.specs.Prelude.{◌≡◌, ℕ, ◌<◌, List, Bool, IsTrue, not}
use Rattle.kh_types.specs.Code.{IsArc}
use Rattle.kh_types.specs.Darts.{dart_count, dart_at, IsDartOf}
use Rattle.kh_types.specs.declared.dart.Dart.{Dart}
use Rattle.slide_laws.specs.Slid.{on}
use Rattle.gluing_laws.specs.Arcs.{enters}
use Rattle.gluing_laws.specs.Codes.{arc_of_dart}

-- whether a dart is the head of its arc, where each crossing has a sign
abbrev pub is_head_with : (ℕ → Bool) → Dart → Bool
is_head_with is_positive dart = enters (is_positive dart.crossing) dart.slot

-- a dart of an arc that is the only one of its kind
pub record IsOnlyDart (crossings : List (List ℕ)) (kind : Dart → Bool) (arc : ℕ) (dart : Dart) : Type 0 where
  pub is : IsDartOf crossings arc dart
  pub kind_of : IsTrue (kind dart)
  pub only : (other : Dart) → IsDartOf crossings arc other → IsTrue (kind other) → other ≡ dart

-- with these signs of crossings each arc has one head and one tail
abbrev pub HasHeadsAndTails : List (List ℕ) → (ℕ → Bool) → Type 0
HasHeadsAndTails crossings is_positive =
    (arc : ℕ) → IsArc crossings arc
    → ((head : Dart) × IsOnlyDart crossings (is_head_with is_positive) arc head)
    × ((tail : Dart) × IsOnlyDart crossings (λ dart. not (is_head_with is_positive dart)) arc tail)

-- what the rule of slides says of a side that joins the darts a and b: it comes to the slots behind them, and to the darts what
-- stood behind the other
pub record FollowsRule (crossings after : List (List ℕ)) (a b : ℕ) : Type 0 where
  pub side : arc_of_dart crossings b ≡ arc_of_dart crossings a
  pub behind_first : arc_of_dart after (on a 2) ≡ arc_of_dart crossings a
  pub first : arc_of_dart after a ≡ arc_of_dart crossings (on b 2)
  pub behind_second : arc_of_dart after (on b 2) ≡ arc_of_dart crossings a
  pub second : arc_of_dart after b ≡ arc_of_dart crossings (on a 2)

-- the pass through a dart and the one behind it joins the arcs that the pass through another dart joins in the old code, in the same
-- direction by the same signs
pub record KeepsPass (crossings after : List (List ℕ)) (is_positive : ℕ → Bool) (place old : ℕ) : Type 0 where
  pub below : old < dart_count crossings
  pub first : arc_of_dart after place ≡ arc_of_dart crossings old
  pub second : arc_of_dart after (on place 2) ≡ arc_of_dart crossings (on old 2)
  pub direction : is_head_with is_positive (dart_at place) ≡ is_head_with is_positive (dart_at old)
