-- How columns and rows in memory change in a cancellation: lines are exchanged, and lines are emptied with what stands across.
use Rattle.std.specs.Prelude.{◌≡◌, ℕ, zero, suc, ◌<◌, List, [], length, map, nat_eq, not, slice_index_or, slice_set, Bool, false, All, ◌⊎◌}
use Rattle.std.specs.List.{filter, Contains}
use Rattle.sparse_block.specs.Entries.{Entry, value_at, AreEntries}
use Rattle.sparse_block.specs.Changes.{PlacedLine, placed, places_of}

-- the entries of a line that are not at this place
abbrev pub without : ℕ → List Entry → List Entry
without place entries = filter (λ entry. not (nat_eq entry.place place)) entries

-- the line at each place that is named is one that names it, and all others are as they were
pub record AreExchanged (named : List PlacedLine) (before after : List (List Entry)) : Type 0 where
  pub size : length after ≡ length before
  pub each : (place : ℕ) → Contains named (placed place (slice_index_or after place []))
      ⊎ (¬ Contains (places_of named) place × (slice_index_or after place [] ≡ slice_index_or before place []))

-- the columns and the rows of one matrix, in either order: a number is the same from both sides
pub record AreCrossed (p : ℕ) (lines across : List (List Entry)) : Type 0 where
  pub in_lines : All (AreEntries p (length across)) lines
  pub in_across : All (AreEntries p (length lines)) across
  pub same : (place other : ℕ) → value_at (slice_index_or lines place []) other ≡ value_at (slice_index_or across other []) place

-- degree number k has a line at this place, and has columns and rows of one matrix
pub record CanClear (k place : ℕ) (lines across : List (List (List Entry))) : Type 0 where
  pub has_lines : k < length lines
  pub has_across : k < length across
  pub has_place : place < length (slice_index_or lines k [])
  pub crossed : (p : ℕ) × AreCrossed p (slice_index_or lines k []) (slice_index_or across k [])

-- the lines of each degree, with that at a place of degree number k empty
abbrev pub emptied : ℕ → ℕ → List (List (List Entry)) → List (List (List Entry))
emptied k place degrees = slice_set degrees k (slice_set (slice_index_or degrees k []) place [])

-- the lines of each degree, those of degree number k without their entries at a place
abbrev pub crossed_out : ℕ → ℕ → List (List (List Entry)) → List (List (List Entry))
crossed_out k place degrees = slice_set degrees k (map (without place) (slice_index_or degrees k []))

-- the same in the degree before number k, where there is one
abbrev pub emptied_before : ℕ → ℕ → List (List (List Entry)) → List (List (List Entry))
emptied_before zero place degrees = degrees
emptied_before (suc k) place degrees = emptied k place degrees

abbrev pub crossed_out_before : ℕ → ℕ → List (List (List Entry)) → List (List (List Entry))
crossed_out_before zero place degrees = degrees
crossed_out_before (suc k) place degrees = crossed_out k place degrees

-- the places of each degree, with a place of degree number k dead
abbrev pub with_dead : ℕ → ℕ → List (List Bool) → List (List Bool)
with_dead k place degrees = slice_set degrees k (slice_set (slice_index_or degrees k []) place false)
