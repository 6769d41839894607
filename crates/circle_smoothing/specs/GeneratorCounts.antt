-- How many generators a code has.
use Rattle.std.specs.Prelude.{ℕ, ◌*◌, ◌^◌}
use Rattle.std.specs.List.{sum_by}
use Rattle.kh_types.specs.Code.{Code}
use Rattle.kh_types.specs.Circles.{circle_count}
use Rattle.kh_types.specs.Generators.{states}
use Rattle.circle_smoothing.specs.Kinds.{kind_circles, kind_count, kind_ones}

-- a generator has one of two labels on each circle of a state: 2 to the number of circles
abbrev pub label_count : Code → ℕ → ℕ
label_count code state = 2 ^ circle_count code state

-- the number of generators: the sum over all states (Bar-Natan 2002, section 3)
abbrev pub generator_count : Code → ℕ
generator_count code = sum_by (label_count code) (states code)

-- the number of generators of the states of a kind
abbrev pub kind_generators : Code → ℕ → ℕ
kind_generators code kind = kind_count code (kind_ones kind) (kind_circles kind) * 2 ^ kind_circles kind
