-- The deformed cube of a code as cells.
use Rattle.std.specs.Prelude.{ℕ, ◌+◌, ◌*◌, pos, ◌+ℤ◌, ◌-ℤ◌}
use Rattle.kh_types.specs.Code.{Code}
use Rattle.kh_types.specs.Generators.{Generator, generators, label_degree, one_count}
use Rattle.cell_laws.specs.Cells.{Cells}
use Rattle.square_laws.specs.Deformed.{deformed_coefficient}

-- the deformed cube of a code, with given numbers of positive and negative crossings: the cells and the degrees of the plain cube
abbrev pub deformed_cube_of : ℕ → ℕ → Code → ℕ → ℕ → Cells Generator
deformed_cube_of p h code plus minus =
    record {
      list = generators code;
      homological = λ x. pos (one_count code x.state) -ℤ pos minus;
      quantum = λ x. label_degree code x +ℤ (pos (one_count code x.state + plus) -ℤ pos (2 * minus));
      coefficient = deformed_coefficient p h code;
    }
