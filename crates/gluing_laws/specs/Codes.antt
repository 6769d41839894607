-- Codes under other numbers, and the arcs of darts, which are numbered without regard to arcs.
use Rattle.std.specs.Prelude.{◌≡◌, ℕ, ◌+◌, ◌*◌, ◌/◌, ◌%◌, ◌<◌, List, length}
use Rattle.kh_types.specs.Code.{Code}
use Rattle.gluing_laws.specs.Arcs.{arc_by_place}

-- the arc of a dart
abbrev pub arc_of_dart : List (List ℕ) → ℕ → ℕ
arc_of_dart crossings dart = arc_by_place crossings (dart / 4) (dart % 4)

-- the size of the list that holds a class for the number 0, for each arc and for each loop
abbrev pub name_count : Code → ℕ
name_count code = 2 * length code.crossings + code.loops + 1

-- a code's slots hold arcs
abbrev pub HoldsArcs : Code → Type 0
HoldsArcs code = (place slot : ℕ) → place < length code.crossings → slot < 4 → arc_by_place code.crossings place slot < name_count code

-- a code with other numbers on its arcs: no two arcs get one number, and the loops stay
pub record IsRenumbered (f : ℕ → ℕ) (old new : Code) : Type 0 where
  pub size : length new.crossings ≡ length old.crossings
  pub loops : new.loops ≡ old.loops
  pub below : (x : ℕ) → x < name_count old → f x < name_count old
  pub apart : (x y : ℕ) → x < name_count old → y < name_count old → f x ≡ f y → x ≡ y
  pub arcs : (place slot : ℕ) → place < length old.crossings → slot < 4
      → arc_by_place new.crossings place slot ≡ f (arc_by_place old.crossings place slot)
