-- The cubes of two codes as factors, and the generator of a union of two generators.
use Rattle.std.specs.Prelude.{ℕ, ◌+◌, ◌-◌, ◌*◌, ◌/◌, ◌%◌, ◌^◌, length, nat_eq, Bool, ◌&&◌, if◌then◌else◌}
use Rattle.kh_types.specs.Circles.{circles_of}
use Rattle.kh_types.specs.CircleNumbers.{names_to}
use Rattle.kh_types.specs.Code.{Code, arc_count}
use Rattle.kh_types.specs.Generators.{Generator, generator_of, one_count}
use Rattle.cell_laws.specs.Cubes.{cube_of}
use Rattle.product_laws.specs.Products.{Factor}

-- a generator is another
abbrev pub same_generator : Generator → Generator → Bool
same_generator x y = nat_eq x.state y.state && nat_eq x.label y.label

-- modulo p, -1 to the number of crossings that have their 1-smoothing
abbrev pub state_sign : ℕ → Code → Generator → ℕ
state_sign p code x = if nat_eq (one_count code x.state % 2) 0 then 1 else p - 1

-- the cube of a code as a first factor: beside each of its generators the differential of the second has this sign
abbrev pub first_factor : ℕ → Code → ℕ → ℕ → Factor Generator
first_factor p code plus minus =
    record { cells = cube_of p code plus minus; same = same_generator; sign = state_sign p code }

-- and as a second: beside its generators the differential of the first stays
abbrev pub second_factor : ℕ → Code → ℕ → ℕ → Factor Generator
second_factor p code plus minus = record { cells = cube_of p code plus minus; same = same_generator; sign = λ x. 1 }

-- how many circles of a state have arcs: the others are loops
abbrev pub low_count : Code → ℕ → ℕ
low_count code state = length (names_to (circles_of code state) (arc_count code.crossings))

-- the low p bits of x, the low q bits of y, then r more bits of x, then the rest of y
abbrev pub mixed : ℕ → ℕ → ℕ → ℕ → ℕ → ℕ
mixed p q r x y = x % 2 ^ p + 2 ^ p * (y % 2 ^ q + 2 ^ q * (x / 2 ^ p + 2 ^ r * (y / 2 ^ q)))

-- the generator of a union of a generator of either code: the state of the first, then that of the second; the labels of the first
-- code's circles with arcs, of the second's, then of the loops of the first and of the second
abbrev pub united : Code → Code → Generator × Generator → Generator
united first second pair =
    generator_of (pair.0.state + 2 ^ length first.crossings * pair.1.state)
    (mixed (low_count first pair.0.state) (low_count second pair.1.state) first.loops pair.0.label pair.1.label)
