-- A code under other names that stand in the order of its arcs, but for the two arcs of a circle that lies over all that it meets.
use Rattle.std.specs.Prelude.{◌≡◌, ◌⊎◌, ℕ, ◌+◌, ◌<◌, ◌≤◌, List, length, true}
use Rattle.kh_types.specs.Code.{Code, arc_in, IsArc}
use Rattle.kh_types.specs.Components.{components_of, component_of, arcs_in}
use Rattle.kh_types.specs.Directions.{is_positive}
use Rattle.code_passes.specs.ComponentLabels.{entering_label}
use Rattle.code_passes.specs.Passes.{is_over}
use Rattle.code_passes.specs.Parts.{Parts, slots_in, is_positive_at}

-- the crossings of parts are those of a code, with its directions, each arc under the name that f gives it
pub record IsNamedBy (f : ℕ → ℕ) (code : Code) (parts : Parts) : Type 0 where
  pub size : length parts.crossings ≡ length code.crossings
  pub names : (place slot : ℕ) → place < length code.crossings → slot < 4
      → arc_in (slots_in parts.crossings place) slot ≡ f (arc_in (slots_in code.crossings place) slot)
  pub signs : (place : ℕ) → place < length code.crossings
      → is_positive_at parts.positive place ≡ is_positive code.crossings (place + 1)

-- a component of two arcs, given by its least arc, that is over at both its crossings
pub record IsOverCircle (crossings : List (List ℕ)) (first : ℕ) : Type 0 where
  pub two : arcs_in (components_of crossings) first ≡ 2
  pub first_over : is_over (entering_label crossings first) ≡ true
  pub second_over : is_over (entering_label crossings (first + 1)) ≡ true

-- names keep the order of components, and begin each with its least arc, but for circles over all that they meet
pub record KeepsComponents (f : ℕ → ℕ) (crossings : List (List ℕ)) : Type 0 where
  pub apart : (x y : ℕ) → IsArc crossings x → IsArc crossings y → f x ≡ f y → x ≡ y
  pub across : (x y : ℕ) → IsArc crossings x → IsArc crossings y
      → component_of (components_of crossings) x < component_of (components_of crossings) y → f x < f y
  pub within : (x : ℕ) → IsArc crossings x
      → (f (component_of (components_of crossings) x) ≤ f x) ⊎ IsOverCircle crossings (component_of (components_of crossings) x)
