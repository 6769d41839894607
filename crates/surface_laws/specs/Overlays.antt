-- Two surfaces on the same places, laid over one another.
use Rattle.std.specs.Prelude.{◌≡◌, ℕ, List, ◌++◌, map}
use Rattle.std.specs.List.{AllByRecursion, Contains}
use Rattle.surface_laws.specs.Surfaces.{Surface, component_of}

-- all that two surfaces are made of, at the same places
abbrev pub overlaid : Surface → Surface → Surface
overlaid first second = record {
  size = first.size;
  places = first.places ++ second.places;
  joins = first.joins ++ second.joins;
  faces = first.faces ++ second.faces;
  lowers = first.lowers ++ second.lowers;
  raises = first.raises ++ second.raises;
}

-- circles at some places, with both sides at the same place of two surfaces
abbrev pub at_places : List ℕ → List (ℕ × ℕ)
at_places circles = map (λ x. (x, x)) circles

-- where two surfaces meet, at places of both, they meet along one of the circles
pub record MeetAlong (first second : Surface) (circles : List ℕ) : Type 0 where
  pub size : second.size ≡ first.size
  pub joins : AllByRecursion (λ pair. Contains first.places pair.0 × Contains first.places pair.1) first.joins
  pub other_joins : AllByRecursion (λ pair. Contains second.places pair.0 × Contains second.places pair.1) second.joins
  pub on : AllByRecursion (λ x. Contains first.places x × Contains second.places x) circles
  pub meet : (x : ℕ) → Contains first.places x → Contains second.places x
      → (circle : ℕ) × Contains circles circle × (component_of first x ≡ component_of first circle)
      × (component_of second x ≡ component_of second circle)
