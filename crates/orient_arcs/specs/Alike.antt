-- The parts of a code under other names.
use Rattle.std.specs.Prelude.{◌≡◌, ℕ, ◌-◌, ◌*◌, ◌<◌, List, length}
use Rattle.kh_types.specs.Code.{Code, IsCrossing}
use Rattle.kh_types.specs.Directions.{is_positive}
use Rattle.code_passes.specs.Parts.{Parts, is_positive_at}
use Rattle.kh_types.specs.Darts.{dart_at, arc_of}
use Rattle.gluing_laws.specs.Alike.{AreAlike}

-- the names at the slots are below a number
abbrev pub HasNamesBelow : ℕ → List (List ℕ) → Type 0
HasNamesBelow n crossings = (place : ℕ) → place < 4 * length crossings → arc_of crossings (dart_at place) < n

-- parts are those of a code under other names: alike, with the code's directions and its loops
pub record IsOf (code : Code) (parts : Parts) : Type 0 where
  pub alike : AreAlike code.crossings parts.crossings
  pub signs : (crossing : ℕ) → IsCrossing code.crossings crossing
      → is_positive_at parts.positive (crossing - 1) ≡ is_positive code.crossings crossing
  pub loops : parts.loops ≡ code.loops
