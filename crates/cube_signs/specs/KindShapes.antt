-- The shapes of the states of a kind: all states of a kind have one shape.
use Rattle.std.specs.Prelude.{ℕ, ◌+◌, ◌*◌, pos, ◌+ℤ◌, ◌-ℤ◌, List, [], ◌∷◌, nat_eq, Bool, not, if◌then◌else◌}
use Rattle.std.specs.List.{flat_map, range_with_len}
use Rattle.kh_types.specs.Code.{Code}
use Rattle.kh_types.specs.Directions.{minus_count, plus_count}
use Rattle.circle_smoothing.specs.Kinds.{kind_circles, kind_count, kind_ones}
use Rattle.circle_smoothing.specs.declared.kinds.TheConstants.{KINDS}
use Rattle.cube_signs.specs.declared.shape.Shape.{Shape}

-- whether a code has a state of a kind
abbrev pub has_kind : Code → ℕ → Bool
has_kind code kind = not (nat_eq (kind_count code (kind_ones kind) (kind_circles kind)) 0)

-- the shape of the states of a kind
abbrev pub kind_shape : Code → ℕ → Shape
kind_shape code kind =
    record {
      circles = kind_circles kind;
      ones = kind_ones kind;
      top = pos (kind_circles kind) +ℤ (pos (kind_ones kind + plus_count code.crossings) -ℤ pos (2 * minus_count code.crossings));
    }

-- this shape, where there is a state of the kind
abbrev pub shapes_of_kind : Code → ℕ → List Shape
shapes_of_kind code kind = if has_kind code kind then kind_shape code kind ∷ [] else []

-- the shapes of the states of the kinds below a number, each kind once
abbrev pub kind_shapes : Code → ℕ → List Shape
kind_shapes code count = flat_map (shapes_of_kind code) (range_with_len 0 count)

-- those of all kinds
unfoldable pub all_kind_shapes : Code → List Shape
all_kind_shapes code = kind_shapes code KINDS
