-- Rows whose signed dimensions can be summed: those of 2 ^ 16 such rows sum to a number of less than 128 bits. Tables of accepted diagrams
-- have such rows alone, and fewer.
use Rattle.std.specs.Prelude.{◌≤◌, ◌^◌}
use Rattle.kh_types.specs.Table.{IsWithin, Row}
use Rattle.kh_types.specs.declared.limits.TheConstants.{EXPONENT}

-- the quantum degree of a row is within the exponents, and its dimension is no more than 2^68
pub record IsSmallRow (row : Row) : Type 0 where
  pub j : IsWithin EXPONENT row.j
  pub few : row.dim ≤ 2 ^ 68
