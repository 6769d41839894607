-- The cube of a code as cells.
use Rattle.std.specs.Prelude.{ℕ, ◌+◌, ◌*◌, pos, ◌+ℤ◌, ◌-ℤ◌}
use Rattle.kh_types.specs.Code.{Code}
use Rattle.kh_types.specs.Differential.{coefficient}
use Rattle.kh_types.specs.Generators.{Generator, generators, label_degree, one_count}
use Rattle.cell_laws.specs.Cells.{Cells}

-- the cube of a code, with given numbers of positive and negative crossings
abbrev pub cube_of : ℕ → Code → ℕ → ℕ → Cells Generator
cube_of p code plus minus =
    record {
      list = generators code;
      homological = λ x. pos (one_count code x.state) -ℤ pos minus;
      quantum = λ x. label_degree code x +ℤ (pos (one_count code x.state + plus) -ℤ pos (2 * minus));
      coefficient = coefficient p code;
    }
