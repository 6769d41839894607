-- The layers of a view: its objects are the states of the inner crossings, each with a label of what closes there; its outer states are
-- those of the other crossings; and its labels are those of what is seen.
use Rattle.std.specs.Prelude.{ℕ, ◌+◌, ◌-◌, ◌*◌, ◌/◌, ◌%◌, ◌^◌, ℤ, pos, ◌+ℤ◌, ◌-ℤ◌, List, [], ◌∷◌, ◌++◌, length, map, nat_eq, Bool, ◌&&◌, if◌then◌else◌}
use Rattle.std.specs.List.{flat_map, position_or_len, range_with_len, sum_by}
use Rattle.kh_types.specs.Bits.{bit, ones}
use Rattle.kh_types.specs.Code.{Code}
use Rattle.kh_types.specs.Circles.{circle_names}
use Rattle.kh_types.specs.Differential.{label_of}
use Rattle.kh_types.specs.Generators.{Generator, generator_of}
use Rattle.cell_laws.specs.Layers.{Layers}
use Rattle.square_laws.specs.Deformed.{deformed_coefficient, opposite}
use Rattle.view_laws.specs.Partitions.{deformed_saddle_number, seen, seen_count}
use Rattle.view_laws.specs.Views.{View, circle_at, joint_state, together}
use Rattle.cell_laws.specs.Signs.{sign_of_power}

-- the number of an object, by the state of the inner crossings and the label of what closes there; and both of them, by the number
abbrev pub object_of : View → ℕ → ℕ → ℕ
object_of view inside closed = inside + 2 ^ view.inner * closed

abbrev pub inside_of : View → ℕ → ℕ
inside_of view object = object % 2 ^ view.inner

abbrev pub closed_of : View → ℕ → ℕ
closed_of view object = object / 2 ^ view.inner

-- the objects of a state of the inner crossings, and all objects
abbrev pub objects_at : View → ℕ → List ℕ
objects_at view inside = map (object_of view inside) (range_with_len 0 (2 ^ length (view.closed inside)))

abbrev pub view_objects : View → List ℕ
view_objects view = flat_map (objects_at view) (range_with_len 0 (2 ^ view.inner))

-- how many crossings are outer ones
abbrev pub outer_count : Code → View → ℕ
outer_count code view = length code.crossings - view.inner

-- the state of all crossings that an object and an outer state have
abbrev pub state_of : View → ℕ → ℕ → ℕ
state_of view object outside = joint_state view (inside_of view object) outside

-- how many crossings have their 1-smoothing there
abbrev pub ones_of : Code → View → ℕ → ℕ → ℕ
ones_of code view object outside = ones view.inner (inside_of view object) + ones (outer_count code view) outside

-- what is together there
abbrev pub relation_of : Code → View → ℕ → ℕ → ℕ → ℕ → Bool
relation_of code view object outside = together code view (state_of view object outside)

-- how many circles are seen there
abbrev pub seen_at : Code → View → ℕ → ℕ → ℕ
seen_at code view object outside = seen_count (relation_of code view object outside) view.names

-- the label degree of a number of circles with a label
abbrev pub degree_of_labels : ℕ → ℕ → ℤ
degree_of_labels count label = pos count -ℤ pos (2 * ones count label)

-- along the outer crossing at a place, of an object: -1 to the ones before it, times the saddle's number, modulo p; the
-- relations of the outer states and the ones of the object are given
abbrev pub outer_along : ℕ → ℕ → ℕ → (ℕ → ℕ → ℕ → Bool) → List ℕ → ℕ → ℕ → ℕ → ℕ → ℕ → ℕ
outer_along p h inside_ones relation names outside other label other_label place =
    if nat_eq (bit outside place) 0 && nat_eq other (outside + 2 ^ place)
    then sign_of_power p (inside_ones + ones place outside)
    * deformed_saddle_number h (opposite p h) (relation outside) (relation other) names label other_label % p
    else 0

-- along the one outer crossing that leads from the one outer state to the other, if any does
abbrev pub outer_number : ℕ → ℕ → ℕ → ℕ → (ℕ → ℕ → ℕ → Bool) → List ℕ → ℕ → ℕ → ℕ → ℕ → ℕ
outer_number p h count inside_ones relation names outside other label other_label =
    sum_by (outer_along p h inside_ones relation names outside other label other_label) (range_with_len 0 count)

-- the number that has some bits
abbrev pub number_with : List ℕ → ℕ
number_with [] = 0
number_with (b ∷ bs) = b + 2 * number_with bs

-- the label of what is seen, of a generator
abbrev pub label_of_seen : Code → View → Generator → ℕ
label_of_seen code view generator =
    number_with (map (λ x. label_of code generator (view.arc x)) (seen (together code view generator.state) view.names))

-- the circles at a state: those that close inside, then those that are seen
abbrev pub circles_shown : Code → View → ℕ → List ℕ
circles_shown code view state =
    map (circle_at code state) (view.closed (state % 2 ^ view.inner) ++ map view.arc (seen (together code view state) view.names))

-- the label of all circles, by a label of those shown, in their order
abbrev pub label_of_all : Code → View → ℕ → ℕ → ℕ
label_of_all code view state label =
    number_with (map (λ z. bit label (position_or_len (nat_eq z) (circles_shown code view state))) (circle_names code state))

-- the cube's generator that is a cell
abbrev pub generator_at : Code → View → ℕ → ℕ → ℕ → Generator
generator_at code view object outside label =
    let state = state_of view object outside in
    generator_of state
    (label_of_all code view state (closed_of view object + 2 ^ length (view.closed (inside_of view object)) * label))

-- the layers: within an outer state the coefficients are those of the deformed cube, and between outer states they are saddle numbers; with
-- h = 0, where p is above 1, they are the layers of the plain cube
abbrev pub view_layers : ℕ → ℕ → Code → ℕ → ℕ → View → Layers
view_layers p h code plus minus view = record {
  objects = view_objects view;
  states = 2 ^ outer_count code view;
  labels = λ object outside. 2 ^ seen_at code view object outside;
  homological = λ x. pos (ones_of code view x.object x.state) -ℤ pos minus;
  quantum = λ x.
      (degree_of_labels (length (view.closed (inside_of view x.object))) (closed_of view x.object)
      +ℤ degree_of_labels (seen_at code view x.object x.state) x.label)
      +ℤ (pos (ones_of code view x.object x.state + plus) -ℤ pos (2 * minus));
  inner = λ object other outside label other_label.
      deformed_coefficient p h code (generator_at code view object outside label) (generator_at code view other outside other_label);
  outer = λ object outside other label other_label.
      outer_number p h (outer_count code view) (ones view.inner (inside_of view object)) (relation_of code view object) view.names
      outside other label other_label;
}
