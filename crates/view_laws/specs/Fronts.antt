-- Crossings brought to the front, and views by which one arc closes at one state of the inner crossings.
use Rattle.std.specs.Prelude.{ℕ, suc, ◌+◌, List, [], ◌∷◌, ◌++◌, nat_eq, nat_lt, if◌then◌else◌, slice_index_or, take, drop}

-- crossings with the one at a place first, then the others in their order
abbrev pub first_to : ℕ → List (List ℕ) → List (List ℕ)
first_to place crossings = slice_index_or crossings place [] ∷ (take place crossings ++ drop (suc place) crossings)

-- where a place has come then
abbrev pub place_behind : ℕ → ℕ → ℕ
place_behind first place = if nat_lt place first then place + 1 else if nat_eq place first then 0 else place

-- what closes at a state of the inner crossings: one arc at one state
abbrev pub closed_one : ℕ → ℕ → ℕ → List ℕ
closed_one side closed inside = if nat_eq inside closed then side ∷ [] else []
