-- Matrices whose entries are entries of another, up to factors.
use Rattle.std.specs.Prelude.{ℕ, ◌*◌}
use Rattle.kh_types.specs.Residues.{Same}

-- each entry of a matrix is, modulo p, an entry of another, times a factor of its row and a factor of its column: the row and the
-- column each choose a place, in whatever order (the factor 0 stands for rows and columns past the end)
pub record IsScaled (p : ℕ) (matrix other : ℕ → ℕ → ℕ) : Type 0 where
  pub row : ℕ → ℕ
  pub column : ℕ → ℕ
  pub row_factor : ℕ → ℕ
  pub column_factor : ℕ → ℕ
  pub same : (i j : ℕ) → Same p (matrix i j) (row_factor i * (column_factor j * other (row i) (column j)))
