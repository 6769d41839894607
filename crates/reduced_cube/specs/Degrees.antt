-- The reduced quantum degrees, by the shapes of states.
use Rattle.std.specs.Prelude.{ℕ, ◌+◌, ℤ, pos, ◌-ℤ◌, List, Bool, false, ◌&&◌, nat_le, Option, None, Some}
use Rattle.std.specs.List.{filter, list_any, range_with_len}
use Rattle.kh_types.specs.Table.{from_minus}
use Rattle.kh_types.specs.declared.limits.TheConstants.{EXPONENT}
use Rattle.cube_signs.specs.Shapes.{gives_degree}
use Rattle.cube_signs.specs.declared.shape.Shape.{Shape}

-- whether a state has a generator of the reduced quantum degree j: one of its labels has as many v- as there are circles, or fewer,
-- but at least that of the marked circle
abbrev pub shape_has_reduced : ℤ → Shape → Bool
shape_has_reduced j shape = list_any (λ more. gives_degree shape (j -ℤ pos 1) (more + 1)) (range_with_len 0 shape.circles)

-- whether a number is given, from 1 to a last one
abbrev pub is_from_one : Option ℕ → ℕ → Bool
is_from_one None last = false
is_from_one (Some given) last = nat_le 1 given && nat_le given last

-- whether some state has one
abbrev pub some_shape_has_reduced : List Shape → ℤ → Bool
some_shape_has_reduced shapes j = list_any (shape_has_reduced j) shapes

-- the reduced quantum degrees that have a generator, given the shapes of all states
unfoldable pub reduced_degrees_of : List Shape → List ℤ
reduced_degrees_of shapes = filter (some_shape_has_reduced shapes) (from_minus EXPONENT)
