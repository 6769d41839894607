-- The sizes of states, and the degrees of their generators.
use Rattle.std.specs.Prelude.{ℕ, ◌+◌, ◌*◌, ℤ, pos, ◌-ℤ◌, List, map, Option, None, Some, nat_eq, Bool, false}
use Rattle.std.specs.List.{filter, list_any, range_with_len}
use Rattle.std.specs.Ordering.{int_eq}
use Rattle.kh_types.specs.declared.limits.TheConstants.{EXPONENT}
use Rattle.kh_types.specs.Circles.{circle_count}
use Rattle.kh_types.specs.Code.{Code}
use Rattle.kh_types.specs.Generators.{generator_of, one_count, quantum_degree, states}
use Rattle.kh_types.specs.Table.{from_minus}
use Rattle.circle_smoothing.specs.CircleNumbers.{Resolution}
use Rattle.cube_signs.specs.declared.shape.Shape.{Shape}

-- a state of a code
abbrev pub resolution_of : Code → ℕ → Resolution
resolution_of code state = record { code = code; state = state }

-- all states of a code
abbrev pub resolutions : Code → List Resolution
resolutions code = map (resolution_of code) (states code)

-- the number of circles of a state, the number of its 1-smoothings, and the quantum degree of its generator with v+ alone
abbrev pub shape_of : Code → ℕ → Shape
shape_of code state =
    record {
      circles = circle_count code state;
      ones = one_count code state;
      top = quantum_degree code (generator_of state 0);
    }

-- whether a generator with this many labels v- has the quantum degree j: each of them takes 2 from the degree of v+ alone
abbrev pub gives_degree : Shape → ℤ → ℕ → Bool
gives_degree shape j count = int_eq (shape.top -ℤ pos (2 * count)) j

-- whether a state has a generator of the quantum degree j
abbrev pub has_degree : Shape → ℤ → Bool
has_degree shape j = list_any (gives_degree shape j) (range_with_len 0 (shape.circles + 1))

-- whether some state has one
abbrev pub have_degree : List Shape → ℤ → Bool
have_degree shapes j = list_any (λ shape. has_degree shape j) shapes

-- whether a number is the one that is given, if any is
abbrev pub is_given : Option ℕ → ℕ → Bool
is_given None number = false
is_given (Some given) number = nat_eq number given

-- the quantum degrees that have a generator, given the shapes of all states
unfoldable pub degrees_of : List Shape → List ℤ
degrees_of shapes = filter (have_degree shapes) (from_minus EXPONENT)
