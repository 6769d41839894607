-- Generators with their degrees, as the program holds them.
use Rattle.std.specs.Prelude.{ℕ, ◌+◌, ◌*◌, ℤ, pos, ◌+ℤ◌, ◌-ℤ◌, Bool, ◌&&◌}
use Rattle.std.specs.Ordering.{int_eq}
use Rattle.kh_types.specs.Code.{Code}
use Rattle.kh_types.specs.Bits.{ones}
use Rattle.kh_types.specs.Circles.{circle_count}
use Rattle.kh_types.specs.Directions.{plus_count, minus_count}
use Rattle.kh_types.specs.Generators.{Generator, one_count, homological_degree, quantum_degree}
use Rattle.plain_table.specs.declared.generators.Placed.{Placed}
use Rattle.plain_table.specs.declared.generators.Shared.{Shared}

-- a generator with its two degrees
abbrev pub placed_in : Code → Generator → Placed
placed_in code generator =
    record { generator = generator; i = homological_degree code generator; j = quantum_degree code generator }

-- what the generators of a state share: the circles, the degree i, and r + n+ - 2n-
abbrev pub shared_in : Code → ℕ → Shared
shared_in code state =
    record {
      circles = circle_count code state;
      i = pos (one_count code state) -ℤ pos (minus_count code.crossings);
      shift = pos (one_count code state + plus_count code.crossings) -ℤ pos (2 * minus_count code.crossings);
    }

-- a generator with its two degrees, from what its state's generators share
abbrev pub placed_by : Shared → Generator → Placed
placed_by shared generator =
    record {
      generator = generator;
      i = shared.i;
      j = (pos shared.circles -ℤ pos (2 * ones shared.circles generator.label)) +ℤ shared.shift;
    }

-- whether a generator has two degrees
abbrev pub is_placed_at : ℤ → ℤ → Placed → Bool
is_placed_at i j placed = int_eq placed.i i && int_eq placed.j j
