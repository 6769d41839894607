-- Generators of the cube and their two degrees.
use Rattle.std.specs.Prelude.{ℕ, ◌+◌, ◌*◌, ◌^◌, ℤ, pos, ◌+ℤ◌, ◌-ℤ◌, List, length, map, Bool, ◌&&◌}
use Rattle.std.specs.List.{filter, flat_map, range_with_len}
use Rattle.std.specs.Ordering.{int_eq}
use Rattle.kh_types.specs.Code.{Code}
use Rattle.kh_types.specs.Bits.{ones}
use Rattle.kh_types.specs.Directions.{plus_count, minus_count}
use Rattle.kh_types.specs.Circles.{circle_count}

-- a state with a label on each circle; the label's bit at a circle's place among the circles is 0 for v+ and 1 for v-
-- (Bar-Natan 2002, section 3)
pub record Generator : Type 0 where
  pub state : ℕ
  pub label : ℕ

-- the generator of a state and a label
abbrev pub generator_of : ℕ → ℕ → Generator
generator_of state label = record { state = state; label = label }

-- r, how many crossings have their 1-smoothing
abbrev pub one_count : Code → ℕ → ℕ
one_count code state = ones (length code.crossings) state

-- the degree i = r - n- (Bar-Natan 2002, section 3)
abbrev pub homological_degree : Code → Generator → ℤ
homological_degree code generator = pos (one_count code generator.state) -ℤ pos (minus_count code.crossings)

-- the number of labels v+ less the number of labels v-
abbrev pub label_degree : Code → Generator → ℤ
label_degree code generator =
    let count = circle_count code generator.state in
    pos count -ℤ pos (2 * ones count generator.label)

-- the degree j, which is the label degree + r + n+ - 2n- (Bar-Natan 2002, section 3)
abbrev pub quantum_degree : Code → Generator → ℤ
quantum_degree code generator =
    label_degree code generator
    +ℤ (pos (one_count code generator.state + plus_count code.crossings) -ℤ pos (2 * minus_count code.crossings))

-- all states, each as the number of its bits
abbrev pub states : Code → List ℕ
states code = range_with_len 0 (2 ^ length code.crossings)

-- all generators of a state, by label
abbrev pub generators_of : Code → ℕ → List Generator
generators_of code state = map (generator_of state) (range_with_len 0 (2 ^ circle_count code state))

-- all generators, by state, then by label
abbrev pub generators : Code → List Generator
generators code = flat_map (generators_of code) (states code)

-- whether a generator has the homological degree i and the quantum degree j
abbrev pub has_degrees : Code → ℤ → ℤ → Generator → Bool
has_degrees code i j generator = int_eq (homological_degree code generator) i && int_eq (quantum_degree code generator) j

-- the generators of the degrees i and j, in the same order
abbrev pub generators_at : Code → ℤ → ℤ → List Generator
generators_at code i j = filter (has_degrees code i j) (generators code)
