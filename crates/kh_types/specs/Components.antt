-- Components, and the arc that follows an arc.
use Rattle.std.specs.Prelude.{ℕ, ◌+◌, List, [], ◌∷◌, length, nat_eq, Bool, slice_index, if◌then◌else◌}
use Rattle.std.specs.List.{filter, flat_map, list_all, count_by, range_with_len}
use Rattle.kh_types.specs.Code.{arc_in, arc_count, arcs}
use Rattle.kh_types.specs.Classes.{classes_of, is_least}

-- the passes of a crossing: the under pass joins the arcs at its slots 0 and 2, the over pass those at 1 and 3
abbrev pub passes_of : List ℕ → List (ℕ × ℕ)
passes_of slots = (arc_in slots 0, arc_in slots 2) ∷ (arc_in slots 1, arc_in slots 3) ∷ []

-- the component of each number up to 2n, by its least arc: a component is a class of arcs joined by passes
-- (Knot Atlas, "Planar Diagrams"); the number 0 is no arc and stands alone
abbrev pub components_of : List (List ℕ) → List ℕ
components_of crossings = classes_of (arc_count crossings + 1) (flat_map passes_of crossings)

-- the component of an arc
abbrev pub component_of : List ℕ → ℕ → ℕ
component_of components arc = slice_index components arc

-- the least arcs of the components, ascending
abbrev pub first_arcs : List (List ℕ) → List ℕ
first_arcs crossings = filter (is_least (components_of crossings)) (arcs crossings)

-- the number of components
abbrev pub component_count : List (List ℕ) → ℕ
component_count crossings = length (first_arcs crossings)

-- how many arcs a component has, the component being given by its least arc
abbrev pub arcs_in : List ℕ → ℕ → ℕ
arcs_in components first = count_by (nat_eq first) components

-- a component is an interval where the numbers from its least arc on, as many as it has arcs, are its arcs
abbrev pub is_interval : List ℕ → ℕ → Bool
is_interval components first =
    list_all (λ arc. nat_eq (component_of components arc) first) (range_with_len first (arcs_in components first))

-- the arc that follows: in a component that is an interval the next of its last arc is its first, and the next of any other
-- arc is the arc plus 1
abbrev pub next_in : List ℕ → ℕ → ℕ
next_in components arc =
    if nat_eq (component_of components (arc + 1)) (component_of components arc) then arc + 1 else component_of components arc

-- the arc that follows an arc of a code
abbrev pub next : List (List ℕ) → ℕ → ℕ
next crossings arc = next_in (components_of crossings) arc
