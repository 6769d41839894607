-- Kinks and bigons, by the two passes of each crossing.
use Rattle.std.specs.Prelude.{◌≡◌, ◌⊎◌, ℕ, List}
use Rattle.kh_types.specs.Code.{place_of, slots_of}
use Rattle.kh_types.specs.Directions.{is_positive}
use Rattle.code_passes.specs.Parts.{over_pass, under_pass}
use Rattle.code_passes.specs.Passes.{Pass}

-- the under pass of a crossing
abbrev pub under_pass_of : List (List ℕ) → ℕ → Pass
under_pass_of crossings crossing = under_pass (slots_of crossings crossing) (place_of crossing)

-- its over pass
abbrev pub over_pass_of : List (List ℕ) → ℕ → Pass
over_pass_of crossings crossing = over_pass (slots_of crossings crossing) (is_positive crossings crossing) (place_of crossing)

-- one of two passes leaves on the arc on which the other enters
abbrev pub AreNeighbours : Pass → Pass → Type 0
AreNeighbours pass other = (pass.leaves ≡ other.enters) ⊎ (other.leaves ≡ pass.enters)

-- the two passes of a crossing do so
abbrev pub HasKink : List (List ℕ) → ℕ → Type 0
HasKink crossings crossing = AreNeighbours (under_pass_of crossings crossing) (over_pass_of crossings crossing)
