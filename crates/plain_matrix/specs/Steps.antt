-- Steps on the rows and the columns of a matrix modulo p, and eliminations with any pivots.
use Rattle.std.specs.Prelude.{◌≢◌, ℕ, suc, ◌+◌, ◌*◌}
use Rattle.kh_types.specs.MatrixRanks.{Leaves}
use Rattle.kh_types.specs.Residues.{Same}

-- a step on the rows: one row becomes a multiple of itself, by a factor that is not 0, plus a multiple of another row
pub record IsRowStep (p : ℕ) (before after : ℕ → ℕ → ℕ) : Type 0 where
  pub row : ℕ
  pub other : ℕ
  pub apart : other ≢ row
  pub factor : ℕ
  pub multiple : ℕ
  pub unit : ¬ Same p factor 0
  pub changed : (column : ℕ) → Same p (factor * before row column + multiple * before other column) (after row column)
  pub kept : (i column : ℕ) → i ≢ row → Same p (before i column) (after i column)

-- a step on the columns: a step on the rows of the transposes
abbrev pub IsColumnStep : ℕ → (ℕ → ℕ → ℕ) → (ℕ → ℕ → ℕ) → Type 0
IsColumnStep p before after = IsRowStep p (λ i j. before j i) (λ i j. after j i)

-- an elimination with any pivots: it is over where all entries are 0, and a step goes on with what a pivot leaves
pub data IsElimination (p : ℕ) : (ℕ → ℕ → ℕ) → ℕ → Type 0 where
  over : {matrix : ℕ → ℕ → ℕ} → ((row column : ℕ) → Same p (matrix row column) 0) → IsElimination p matrix 0
  step : {matrix rest : ℕ → ℕ → ℕ} {row column steps : ℕ} → Leaves p matrix rest row column
      → IsElimination p rest steps → IsElimination p matrix (suc steps)
