-- Colours for the crossings that follow the checkerboard equations, one equation after another. They are a list of bits, one at
-- each crossing's place, and with them go the classes of crossings that the equations so far tie to each other.
use Rattle.std.specs.Prelude.{ℕ, ◌+◌, ◌-◌, ◌%◌, List, length, map, nat_eq, Bool, not, ◌&&◌, slice_index, if◌then◌else◌}
use Rattle.std.specs.List.{range_with_len}
use Rattle.kh_types.specs.Code.{place_of}
use Rattle.kh_types.specs.declared.acceptance.checkerboard.Equation.{Equation}

-- what an equation ties: the places of its two crossings
abbrev pub tie_of : Equation → ℕ × ℕ
tie_of equation = (place_of equation.crossing, place_of equation.other)

-- colours solve an equation where the two colours and the sum of the slots are odd together
abbrev pub is_coloured : List ℕ → Equation → Bool
is_coloured colours equation =
    nat_eq
    ((slice_index colours (place_of equation.crossing) + (slice_index colours (place_of equation.other) + equation.slots)) % 2)
    1

-- the two crossings of an equation are in one class
abbrev pub is_tied : List ℕ → Equation → Bool
is_tied classes equation =
    nat_eq (slice_index classes (place_of equation.crossing)) (slice_index classes (place_of equation.other))

-- an equation contradicts those before it: it speaks of one class, and the colours do not solve it
abbrev pub contradicts : List ℕ → List ℕ → Equation → Bool
contradicts classes colours equation = not (is_coloured colours equation) && is_tied classes equation

-- a place changes its colour for an equation that the colours do not solve where it is in the class of the equation's other crossing
abbrev pub changes : List ℕ → List ℕ → Equation → ℕ → Bool
changes classes colours equation place =
    not (is_coloured colours equation) && nat_eq (slice_index classes place) (slice_index classes (place_of equation.other))

-- a colour, or the other one where it changes
abbrev pub changed_colour : Bool → ℕ → ℕ
changed_colour changes colour = if changes then 1 - colour % 2 else colour

-- the colour at a place after an equation
abbrev pub colour_after : List ℕ → List ℕ → Equation → ℕ → ℕ
colour_after classes colours equation place =
    changed_colour (changes classes colours equation place) (slice_index colours place)

-- the colours at all places after an equation
abbrev pub colours_after : List ℕ → List ℕ → Equation → List ℕ
colours_after classes colours equation = map (colour_after classes colours equation) (range_with_len 0 (length colours))
