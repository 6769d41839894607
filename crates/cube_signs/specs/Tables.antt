-- What is looked up for the blocks of a cube, found once for all of them.
use Rattle.std.specs.Prelude.{◌≡◌, ℕ, ◌^◌, ◌+◌, ◌<◌, ◌≤◌, ℤ, pos, ◌-ℤ◌, List, [], length, map, slice_index, nat_eq, true, Option, IsTrue}
use Rattle.std.specs.List.{filter, flat_map, range_with_len}
use Rattle.std.specs.Ordering.{int_eq}
use Rattle.arrayvec.specs.ArrayVec.{ArrayVec}
use Rattle.kh_types.specs.declared.limits.TheConstants.{CROSSINGS}
use Rattle.kh_types.specs.Acceptance.{accepted}
use Rattle.kh_types.specs.Bits.{ones}
use Rattle.kh_types.specs.Circles.{circle_count}
use Rattle.kh_types.specs.Code.{Code}
use Rattle.kh_types.specs.Directions.{minus_count}
use Rattle.kh_types.specs.Generators.{Generator, generator_of, generators_of, has_degrees, homological_degree, one_count, states}
use Rattle.circle_smoothing.specs.GeneratorCounts.{generator_count}
use Rattle.circle_smoothing.specs.declared.change.Edge.{Edge}
use Rattle.circle_smoothing.specs.declared.limits.TheConstants.{GENERATORS}
use Rattle.cube_signs.specs.declared.limits.TheConstants.{WIDTH}
use Rattle.cube_signs.specs.LabelRanks.{labels_by_weight, labels_of, ranks_of, weights_of}
use Rattle.cube_signs.specs.Shapes.{is_given, shape_of}
use Rattle.cube_signs.specs.Steps.{steps_in, HaveSteps}
use Rattle.cube_signs.specs.declared.shape.Shape.{Shape}

-- the generators of the degrees i and j that a state has
unfoldable pub state_generators : Code → ℤ → ℤ → ℕ → List Generator
state_generators code i j state = filter (has_degrees code i j) (generators_of code state)

-- those of the states below a number
abbrev pub generators_below : Code → ℤ → ℤ → ℕ → List Generator
generators_below code i j count = flat_map (state_generators code i j) (range_with_len 0 count)

-- how many there are: the place of the first that the next state has
abbrev pub base_of : Code → ℤ → ℤ → ℕ → ℕ
base_of code i j state = length (generators_below code i j state)

-- the homological degree of the generators of a state
abbrev pub own_degree : Code → ℕ → ℤ
own_degree code state = homological_degree code (generator_of state 0)

-- the place of the first generator of a state, among those of its homological degree and the quantum degree j
abbrev pub own_base : Code → ℤ → ℕ → ℕ
own_base code j state = base_of code (own_degree code state) j state

-- the states with so many 1-smoothings, ascending
abbrev pub states_with : Code → ℕ → List ℕ
states_with code level = filter (λ state. nat_eq (one_count code state) level) (states code)

-- the same for each number of 1-smoothings that a state can have
unfoldable pub all_levels : Code → List (List ℕ)
all_levels code = map (states_with code) (range_with_len 0 (CROSSINGS + 1))

-- no state
abbrev pub none_of : ℕ → List ℕ
none_of level = []

-- the same of the states below a number alone
abbrev pub levels_to : Code → ℕ → List (List ℕ)
levels_to code count =
    map (λ level. filter (λ state. nat_eq (one_count code state) level) (range_with_len 0 count)) (range_with_len 0 (CROSSINGS + 1))

-- no state for each of so many numbers
abbrev pub no_states : ℕ → List (List ℕ)
no_states count = map none_of (range_with_len 0 count)

-- the states whose generators have the homological degree i, ascending
abbrev pub states_at : Code → ℤ → List ℕ
states_at code i = filter (λ state. int_eq (own_degree code state) i) (states code)

-- how many generators of the quantum degree j the states below a number have, by the ones of the states
pub record HaveSizes (code : Code) (j : ℤ) (count : ℕ) (sizes : List ℕ) : Type 0 where
  pub size : length sizes ≡ CROSSINGS + 1
  pub each : (level : ℕ) → level ≤ CROSSINGS
      → slice_index sizes level ≡ base_of code (pos level -ℤ pos (minus_count code.crossings)) j count

-- the diagram's code is accepted and within the limits; there are its negative crossings, for each state its shape and the edges out
-- of it, and the states by the number of their 1-smoothings; and of the labels of as many circles as any state has there are those of each
-- number of v-, and for each label how many before it have as many v-
pub record AreTables (code : Code) (minus : ℕ) (shapes : List Shape) (rows : List (ArrayVec (Option Edge))) (labels : List (List ℕ))
    (ranks : List ℕ) (levels : List (List ℕ)) : Type 0 where
  pub is_code : IsTrue (accepted code)
  pub few : length code.crossings ≤ CROSSINGS
  pub size : generator_count code ≤ GENERATORS
  pub are_minus : minus ≡ minus_count code.crossings
  pub are_shapes : shapes ≡ map (shape_of code) (states code)
  pub are_steps : HaveSteps code (2 ^ length code.crossings) (steps_in rows)
  pub width : ℕ
  pub narrow : width ≤ WIDTH
  pub most : (state : ℕ) → state < 2 ^ length code.crossings → circle_count code state ≤ width
  pub are_labels : labels ≡ labels_by_weight width
  pub are_ranks : ranks ≡ ranks_of (weights_of width) (length (weights_of width))
  pub are_levels : levels ≡ all_levels code

-- a number of labels v-, if any is given, is that of the labels that have the degrees i and j in a state
pub record IsWeight (code : Code) (i j : ℤ) (state : ℕ) (given : Option ℕ) : Type 0 where
  pub labels : (label : ℕ) → has_degrees code i j (generator_of state label) ≡ is_given given (ones (circle_count code state) label)

-- a list has the labels with this many v- of as many circles as any state has, ascending
pub record AreLabels (code : Code) (weight : ℕ) (labels : List ℕ) : Type 0 where
  pub width : ℕ
  pub most : (state : ℕ) → state < 2 ^ length code.crossings → circle_count code state ≤ width
  pub are : labels ≡ labels_of width weight

-- a list of ranks has, for each label of a state, how many labels before it have the degrees that it has
pub record AreRanks (code : Code) (ranks : List ℕ) : Type 0 where
  pub each : (i j : ℤ) (state label : ℕ) → state < 2 ^ length code.crossings → label < 2 ^ circle_count code state
      → has_degrees code i j (generator_of state label) ≡ true
      → slice_index ranks label ≡ length (filter (λ other. has_degrees code i j (generator_of state other)) (range_with_len 0 label))
