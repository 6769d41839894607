-- Matrices with the same rows.
use Rattle.std.specs.Prelude.{◌≡◌, ℕ, List}
use Rattle.kh_types.specs.Complex.{entry_in}

-- each row of a matrix is a row of another, in whatever order and number; the rows past the end are rows of zeros
pub record IsAmong (rows others : List (List ℕ)) : Type 0 where
  pub place : ℕ → ℕ
  pub same : (row column : ℕ) → entry_in rows row column ≡ entry_in others (place row) column
