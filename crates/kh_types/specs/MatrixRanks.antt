-- The rank of a matrix modulo p as the least middle size of its products, rows that depend on others, and what a pivot leaves
-- (any textbook of linear algebra).
use Rattle.std.specs.Prelude.{◌≡◌, ℕ, ◌+◌, ◌*◌, ◌<◌, ◌≤◌, List, [], length, slice_index_or}
use Rattle.kh_types.specs.Complex.{entry_in}
use Rattle.kh_types.specs.Residues.{Same}
use Rattle.kh_types.specs.Products.{sum_below, Factors}

-- a list of rows of one length, with entries below p
pub record IsMatrix (p columns : ℕ) (rows : List (List ℕ)) : Type 0 where
  pub width : (row : ℕ) → row < length rows → length (slice_index_or rows row []) ≡ columns
  pub below : (row column : ℕ) → entry_in rows row column < p

-- r is the least middle size of a product that is the matrix
pub record HasRank (p : ℕ) (matrix : ℕ → ℕ → ℕ) (r : ℕ) : Type 0 where
  pub factors : Factors p matrix r
  pub least : (s : ℕ) → Factors p matrix s → r ≤ s

-- the row a depends on others: a combination of m rows is 0, in which its factor is not
pub record IsDependent (p m a : ℕ) (matrix : ℕ → ℕ → ℕ) : Type 0 where
  pub factor : ℕ → ℕ
  pub within : a < m
  pub other : ¬ Same p (factor a) 0
  pub zeros : (column : ℕ) → Same p (sum_below m (λ row. factor row * matrix row column)) 0

-- what the pivot at a row and a column leaves of a matrix: from each entry it takes the way back through the pivot,
-- so that the pivot's row and column become 0
pub record Leaves (p : ℕ) (matrix rest : ℕ → ℕ → ℕ) (row column : ℕ) : Type 0 where
  pub inverse : ℕ
  pub inverts : Same p (matrix row column * inverse) 1
  pub others : (i j : ℕ) → Same p (matrix i column * (inverse * matrix row j) + rest i j) (matrix i j)
