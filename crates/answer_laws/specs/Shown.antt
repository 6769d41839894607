-- What an answer shows, and what the homology of one code says of that of another.
use Rattle.std.specs.Prelude.{◌≡◌, ℕ, ℤ, neg_ℤ, map, reverse}
use Rattle.kh_types.specs.Code.{Code}
use Rattle.kh_types.specs.StateSum.{state_sum}
use Rattle.kh_types.specs.Table.{Row, Table, dimension, table}
use Rattle.kh_types.specs.declared.limits.TheConstants.{EXPONENT}
use Rattle.link_algebra.specs.Unions.{product_coefficient}
use Rattle.union_laws.specs.UnitedRows.{rows_product}
use Rattle.word_line.specs.Values.{IsFieldSize}
use Rattle.kh_inputs.specs.Inputs.{IsDiagramText}
use Rattle.kh_runs.specs.Replies.{Reply}
use Rattle.kh_runs.specs.declared.status.Status.TheVariants.{Done}

-- a reply is done, and its text is that of an accepted diagram of which something holds: so a next command reads it
pub record ShowsDiagram (Holds : Code → Type 0) (reply : Reply) : Type 0 where
  pub code : Code
  pub done : reply.status ≡ Done
  pub text : IsDiagramText reply.text code
  pub holds : Holds code

-- a code has the tables of another over the four fields, and its state sum
pub record HasTablesOf (code other : Code) : Type 0 where
  pub tables : (field : ℕ) → IsFieldSize field → table field other ≡ table field code
  pub sums : (exponent : ℤ) → state_sum other exponent ≡ state_sum code exponent

-- a row at the opposite degrees
abbrev pub opposite_row : Row → Row
opposite_row row = record { j = neg_ℤ row.j; i = neg_ℤ row.i; dim = row.dim }

-- a table turned round: each row at the opposite degrees, the last row first
abbrev pub dual_table : Table → Table
dual_table homology = record { field = homology.field; rows = reverse (map opposite_row homology.rows) }

-- a code has the tables of another turned round, over the four fields, and its state sum with 1/q for q
pub record HasDualTablesOf (code other : Code) : Type 0 where
  pub tables : (field : ℕ) → IsFieldSize field → table field other ≡ dual_table (table field code)
  pub sums : (exponent : ℤ) → state_sum other (neg_ℤ exponent) ≡ state_sum code exponent

-- a code has the product of two codes' tables over the four fields, and of their state sums
pub record HasProductOf (first second other : Code) : Type 0 where
  pub dimensions : (field : ℕ) (i j : ℤ) → IsFieldSize field
      → dimension field other i j ≡ rows_product (table field first).rows (table field second).rows i j
  pub sums : (exponent : ℤ)
      → state_sum other exponent ≡ product_coefficient EXPONENT (state_sum first) (state_sum second) exponent
