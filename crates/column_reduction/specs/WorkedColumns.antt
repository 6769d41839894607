-- A matrix of three rows and four columns over the field of three elements, and its reduced columns.
use Rattle.std.specs.Prelude.{ℕ, pos, List, [], ◌∷◌, true, map, slice_index}
use Rattle.std.specs.List.{range_with_len}
use Rattle.kh_types.specs.Complex.{Complex}
use Rattle.kh_types.specs.Generators.{Generator, generator_of}
use Rattle.kh_types.specs.History.{replay}
use Rattle.sparse_block.specs.Entries.{Entry, entry_at}
use Rattle.column_reduction.specs.Reductions.{ReducedColumn, pivots_of}

-- the columns 1 1 0, 2 0 1, 0 2 1 and 0 1 1
abbrev pub three_rows : Complex
three_rows =
    record {
      low = pos 0;
      degrees =
          record {
            alive = true ∷ true ∷ true ∷ true ∷ [];
            matrix = (1 ∷ 2 ∷ 0 ∷ 0 ∷ []) ∷ (1 ∷ 0 ∷ 2 ∷ 1 ∷ []) ∷ (0 ∷ 1 ∷ 1 ∷ 1 ∷ []) ∷ [];
          }
          ∷ record { alive = true ∷ true ∷ true ∷ []; matrix = [] }
          ∷ [];
    }

-- the numbers of a list, and 0 past it
abbrev pub numbers : List ℕ → ℕ → ℕ
numbers values row = slice_index values row

-- the first two columns stay; the third less the second and twice the first is 2 0 0; and of the fourth, the sum of the first two,
-- nothing is left
abbrev pub three_columns : List ReducedColumn
three_columns =
    record { column = 0; row = 1; values = numbers (1 ∷ 1 ∷ []) }
    ∷ record { column = 1; row = 2; values = numbers (2 ∷ 0 ∷ 1 ∷ []) }
    ∷ record { column = 2; row = 0; values = numbers (2 ∷ []) }
    ∷ []

-- what their pivots leave
abbrev pub three_rows_after : Complex
three_rows_after = replay 3 three_rows (pivots_of (pos 0) three_columns)

-- names for four degrees with as many places, which stand for nothing here
abbrev pub four_names : ℕ → ℕ → ℕ → ℕ → List (List Generator)
four_names a b c d =
    map (generator_of 0) (range_with_len 0 a) ∷ map (generator_of 1) (range_with_len 0 b)
    ∷ map (generator_of 2) (range_with_len 0 c) ∷ map (generator_of 3) (range_with_len 0 d) ∷ []

-- the same matrix by columns, for four degrees of which two have no place
abbrev pub three_lines : List (List (List Entry))
three_lines =
    ((entry_at (0, 1) ∷ entry_at (1, 1) ∷ []) ∷ (entry_at (0, 2) ∷ entry_at (2, 1) ∷ [])
    ∷ (entry_at (1, 2) ∷ entry_at (2, 1) ∷ []) ∷ (entry_at (1, 1) ∷ entry_at (2, 1) ∷ []) ∷ [])
    ∷ ([] ∷ [] ∷ [] ∷ []) ∷ [] ∷ [] ∷ []

-- a square: one place with the column 1 1, two with the columns 1 and y, one, and none. The product is 1 + y
abbrev pub square_lines : ℕ → List (List (List Entry))
square_lines y =
    ((entry_at (0, 1) ∷ entry_at (1, 1) ∷ []) ∷ []) ∷ ((entry_at (0, 1) ∷ []) ∷ (entry_at (0, y) ∷ []) ∷ []) ∷ ([] ∷ []) ∷ [] ∷ []

-- four degrees without places
abbrev pub void_lines : List (List (List Entry))
void_lines = [] ∷ [] ∷ [] ∷ [] ∷ []
