-- The survivors of a code.
use Rattle.std.specs.Prelude.{ℕ, ℤ}
use Rattle.kh_types.specs.Code.{Code}
use Rattle.kh_types.specs.Directions.{minus_count, plus_count}
use Rattle.cell_laws.specs.Filtered.{survivors}
use Rattle.cell_laws.specs.DeformedCubes.{deformed_cube_of}

-- how many classes of degree i survive from t on in the deformed cube of a code, with its own numbers of positive and negative crossings
abbrev pub code_survivors : ℕ → ℕ → Code → ℤ → ℤ → ℕ
code_survivors p h code i t = survivors p (deformed_cube_of p h code (plus_count code.crossings) (minus_count code.crossings)) i t
