-- The two colours of darts that a checkerboard choice gives.
use Rattle.std.specs.Prelude.{◌≡◌, ℕ, ◌+◌, ◌%◌, ◌<◌, List}
use Rattle.kh_types.specs.Code.{place_of, IsArc}
use Rattle.kh_types.specs.Bits.{bit}
use Rattle.kh_types.specs.Darts.{arc_of, IsDart, IsDartOf}
use Rattle.kh_types.specs.declared.dart.Dart.{Dart}

-- the colour of a dart, 0 or 1, where a choice gives each crossing a bit: it changes from slot to slot round a crossing, and the
-- bit says which colour slot 0 has
abbrev pub colour : ℕ → Dart → ℕ
colour choice dart = (bit choice (place_of dart.crossing) + dart.slot) % 2

-- a choice colours the darts: each slot holds an arc, no two darts of an arc have one colour, and each arc has a dart of either
-- colour
pub record IsColoured (crossings : List (List ℕ)) (choice : ℕ) : Type 0 where
  pub arcs : (dart : Dart) → IsDart crossings dart → IsArc crossings (arc_of crossings dart)
  pub once : (dart other : Dart) → IsDart crossings dart → IsDart crossings other
      → arc_of crossings dart ≡ arc_of crossings other → colour choice dart ≡ colour choice other → dart ≡ other
  pub both : (arc side : ℕ) → IsArc crossings arc → side < 2
      → (dart : Dart) × IsDartOf crossings arc dart × (colour choice dart ≡ side)
