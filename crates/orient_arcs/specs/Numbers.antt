-- The numbers of components, which are numbered from 0 by their least arcs.
use Rattle.std.specs.Prelude.{◌≡◌, ℕ, ◌+◌, ◌<◌, ◌≤◌, List, nat_eq, slice_index}
use Rattle.std.specs.List.{position_or_len}
use Rattle.kh_types.specs.Components.{components_of, component_of, first_arcs, arcs_in, next}

-- the number of an arc's component: the place of its least arc among the least arcs of all components
abbrev pub component_number : List (List ℕ) → ℕ → ℕ
component_number crossings arc =
    position_or_len (nat_eq (component_of (components_of crossings) arc)) (first_arcs crossings)

-- the least arc of the component with a number
abbrev pub first_arc : List (List ℕ) → ℕ → ℕ
first_arc crossings component = slice_index (first_arcs crossings) component

-- the number behind the last arc of an arc's component: its least arc, and as many more as it has arcs
abbrev pub end_of : List (List ℕ) → ℕ → ℕ
end_of crossings arc =
    component_of (components_of crossings) arc + arcs_in (components_of crossings) (component_of (components_of crossings) arc)

-- an arc among those of its component, which are the numbers from its least arc on, as many as it has: the next of the last of
-- them is the least, and the next of any other is the number that follows
pub record GoesRound (crossings : List (List ℕ)) (arc : ℕ) : Type 0 where
  pub from : component_of (components_of crossings) arc ≤ arc
  pub below : arc < end_of crossings arc
  pub inside : arc + 1 < end_of crossings arc → next crossings arc ≡ arc + 1
  pub last : arc + 1 ≡ end_of crossings arc → next crossings arc ≡ component_of (components_of crossings) arc
