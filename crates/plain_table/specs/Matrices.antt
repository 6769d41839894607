-- The matrices of the differential, from lists of generators.
use Rattle.std.specs.Prelude.{ℕ, List, length, map, slice_set}
use Rattle.kh_types.specs.Code.{Code}
use Rattle.kh_types.specs.Generators.{Generator}
use Rattle.kh_types.specs.Differential.{coefficient}
use Rattle.plain_matrix.specs.Matrices.{Matrix}
use Rattle.plain_table.specs.declared.generators.Placed.{Placed}

-- the coefficients from each generator of a list to one generator
abbrev pub row_for : ℕ → Code → List Placed → Generator → List ℕ
row_for p code tails head = map (λ tail. coefficient p code tail.generator head) tails

-- a row for each generator of one list, with an entry for each generator of another
abbrev pub rows_for : ℕ → Code → List Placed → List Placed → List (List ℕ)
rows_for p code tails heads = map (λ head. row_for p code tails head.generator) heads

-- the matrix of these rows, with a column for each generator of the one list
abbrev pub matrix_for : ℕ → Code → List Placed → List Placed → Matrix
matrix_for p code tails heads = record { rows = rows_for p code tails heads; columns = length tails }

-- the matrix with another row at a place
abbrev pub with_row : Matrix → ℕ → List ℕ → Matrix
with_row matrix row entries = record { rows = slice_set matrix.rows row entries; columns = matrix.columns }
