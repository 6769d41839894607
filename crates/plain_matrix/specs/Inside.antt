-- A matrix as the program holds it: a list of rows in memory.
use Rattle.std.specs.Prelude.{◌≡◌, ◌<◌, ◌^◌, ℕ, List, length, map, All}
use Rattle.std.specs.Global.{Vec}
use Rattle.plain_matrix.specs.Matrices.{Matrix}

-- the values of rows in memory
abbrev pub values_of : {F : Type 0} → (F → ℕ) → List (Vec F) → List (List ℕ)
values_of value_of rows = map (λ row. map value_of row.items) rows

-- the matrix of such rows
abbrev pub matrix_of : {F : Type 0} → (F → ℕ) → List (Vec F) → ℕ → Matrix
matrix_of value_of rows columns = record { rows = values_of value_of rows; columns = columns }

-- each row has an entry for each column, and the rows can be counted
pub record HasSize {F : Type 0} (rows : List (Vec F)) (columns : ℕ) : Type 0 where
  pub width : All (λ row. length row.items ≡ columns) rows
  pub height : length rows < 2 ^ 32
