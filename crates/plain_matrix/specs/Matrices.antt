-- Matrices as plain data.
use Rattle.std.specs.Prelude.{ℕ, List, [], length, map, replicate, slice_set, slice_index, slice_index_or}
use Rattle.std.specs.List.{range_with_len}

-- a matrix: the list of its rows, and how many columns it has
pub record Matrix : Type 0 where
  pub rows : List (List ℕ)
  pub columns : ℕ

-- the matrix of zeros
abbrev pub zero_matrix : ℕ → ℕ → Matrix
zero_matrix rows columns = record { rows = replicate rows (replicate columns 0); columns = columns }

-- the matrix with another entry at a row and a column
abbrev pub with_entry : Matrix → ℕ → ℕ → ℕ → Matrix
with_entry matrix row column value =
    record {
      rows = slice_set matrix.rows row (slice_set (slice_index_or matrix.rows row []) column value);
      columns = matrix.columns;
    }

-- a column: its entry of each row
abbrev pub matrix_column : List (List ℕ) → ℕ → List ℕ
matrix_column rows column = map (λ row. slice_index row column) rows

-- the rows of the transpose are the columns
abbrev pub transposed_rows : ℕ → List (List ℕ) → List (List ℕ)
transposed_rows columns rows = map (matrix_column rows) (range_with_len 0 columns)

-- the transpose: its rows are the columns, and its columns the rows
abbrev pub transpose : Matrix → Matrix
transpose matrix = record { rows = transposed_rows matrix.columns matrix.rows; columns = length matrix.rows }
