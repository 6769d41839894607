-- The parts of a block over chosen generators, as they are found.
use Rattle.std.specs.Prelude.{◌≡◌, ℕ, ◌+◌, ◌*◌, ◌<◌, ◌^◌, ℤ, pos, ◌-ℤ◌, List, length, map, Bool, slice_index, All}
use Rattle.std.specs.List.{range_with_len}
use Rattle.kh_types.specs.Code.{Code}
use Rattle.kh_types.specs.Generators.{Generator, generators_at}
use Rattle.sparse_block.specs.Complexes.{sparse_complex, HaveEntries, SquaresToZero}
use Rattle.sparse_block.specs.Entries.{Entry, entry_at}
use Rattle.cube_signs.specs.Chosen.{chosen_at, chosen_before, chosen_block}
use Rattle.cube_signs.specs.Columns.{AreColumns}

-- the chosen generators of the quantum degree j and of the first homological degrees, from -n on where there are n crossings
abbrev pub chosen_to : (Generator → Bool) → Code → ℤ → ℕ → List (List Generator)
chosen_to choice code j count = map (λ k. chosen_at choice code (pos k -ℤ pos (length code.crossings)) j) (range_with_len 0 count)

-- for each of some generators, how many before it are chosen; and for the first of them
abbrev pub places_to : (Generator → Bool) → List Generator → ℕ → List ℕ
places_to choice generators count = map (chosen_before choice generators) (range_with_len 0 count)

abbrev pub all_places : (Generator → Bool) → List Generator → List ℕ
all_places choice generators = places_to choice generators (length generators)

-- the same for all generators of these degrees
abbrev pub all_places_to : (Generator → Bool) → Code → ℤ → ℕ → List (List ℕ)
all_places_to choice code j count =
    map (λ k. all_places choice (generators_at code (pos k -ℤ pos (length code.crossings)) j)) (range_with_len 0 count)

-- an entry at the row that is given for its row
abbrev pub moved_entry : List ℕ → Entry → Entry
moved_entry rows entry = entry_at (slice_index rows entry.place, entry.value)

-- columns are those of some generators of the degrees i and j, with their rows numbered anew
pub record AreMovedColumns (p : ℕ) (code : Code) (i j : ℤ) (tails : List Generator) (rows : List ℕ) (columns : List (List Entry)) : Type 0 where
  pub whole : List (List Entry)
  pub of_tails : AreColumns p code i j tails (length tails) whole
  pub are : columns ≡ map (map (moved_entry rows)) whole

-- names and columns, by degree from the lowest on, of which the block over the chosen generators is made
pub record AreChosenParts (choice : Generator → Bool) (p : ℕ) (code : Code) (j : ℤ) (names : List (List Generator)) (columns : List (List (List Entry))) : Type 0 where
  pub size : length names ≡ 2 * length code.crossings + 1
  pub counts : All (λ degree. length degree < 2 ^ 29) names
  pub sizes : map length columns ≡ map length names
  pub entries : HaveEntries p names columns
  pub squares : SquaresToZero p (sparse_complex (pos 0 -ℤ pos (length code.crossings)) names columns).complex
  pub is : sparse_complex (pos 0 -ℤ pos (length code.crossings)) names columns ≡ chosen_block choice p code j
