-- Renumbering.
use Rattle.std.specs.Prelude.{◌≡◌, ◌≤◌, ◌<◌, ℕ, zero, suc, ◌+◌, slice_index, slice_index_or, List, [], ◌∷◌, ◌++◌, length, map, max, Bool, not, ◌&&◌, if◌then◌else◌, nat_eq, ℤ, int_lt, unwrap_or}
use Rattle.std.specs.List.{count_by, find, flat_map, fold, list_any, position_or_len, range_with_len}
use Rattle.kh_types.specs.Code.{Code, arc_in}
use Rattle.code_passes.specs.Passes.{Pass, no_pass, is_over}
use Rattle.code_passes.specs.Parts.{Parts, passes_through, head_count}

-- the pass that enters on a name
abbrev pub entering : List Pass → ℕ → Pass
entering passes name = unwrap_or (find (λ (pass : Pass). nat_eq pass.enters name) passes) no_pass

-- the name that follows a name along the direction
abbrev pub follows : List Pass → ℕ → ℕ
follows passes name = (entering passes name).leaves

-- the label of the pass that a name enters: the crossing's number where it is over, minus that number where it is under
abbrev pub label_entered : List Pass → ℕ → ℤ
label_entered passes name = (entering passes name).label

-- a number above all names that are entered
abbrev pub bound_of : List Pass → ℕ
bound_of [] = 0
bound_of (pass ∷ passes) = max (pass.enters + 1) (bound_of passes)

-- whether a name stands in a list
abbrev pub is_in : List ℕ → ℕ → Bool
is_in names name = list_any (nat_eq name) names

-- the names from a name on, along the direction, up to the one that the first follows; at most some number of them
abbrev pub walk : (ℕ → ℕ) → ℕ → ℕ → ℕ → List ℕ
walk next first zero name = []
walk next first (suc fuel) name = name ∷ (if nat_eq (next name) first then [] else walk next first fuel (next name))

-- all names of some components
abbrev pub all_of : List (List ℕ) → List ℕ
all_of components = flat_map (λ names. names) components

-- one component more, that of a name which stands and is in none so far
abbrev pub with_component : List Pass → List (List ℕ) → ℕ → List (List ℕ)
with_component passes components name =
    if is_in (map (λ (pass : Pass). pass.enters) passes) name && not (is_in (all_of components) name)
    then components ++ walk (follows passes) name (length passes) name ∷ [] else components

-- the components in the order of their least names, each along its direction from its least name on
abbrev pub named_components : List Pass → List (List ℕ)
named_components passes = fold (with_component passes) [] (range_with_len 0 (bound_of passes))

-- a component of two arcs that is over at both its crossings begins with the arc that enters the first listed of them
abbrev pub turned_names : (ℕ → ℤ) → List ℕ → List ℕ
turned_names label (first ∷ second ∷ []) =
    if (is_over (label first) && is_over (label second)) && int_lt (label second) (label first)
    then second ∷ first ∷ [] else first ∷ second ∷ []
turned_names label names = names

-- all names in the order of their new numbers
abbrev pub order_of : List Pass → List ℕ
order_of passes = flat_map (turned_names (label_entered passes)) (named_components passes)

-- the new number of a name, from 1
abbrev pub number_in : List ℕ → ℕ → ℕ
number_in order name = position_or_len (nat_eq name) order + 1

-- a crossing under its new numbers
abbrev pub renamed_crossing : (ℕ → ℕ) → List ℕ → List ℕ
renamed_crossing number slots =
    number (arc_in slots 0) ∷ number (arc_in slots 1) ∷ number (arc_in slots 2) ∷ number (arc_in slots 3) ∷ []

-- the code of some parts
abbrev pub renumber : Parts → Code
renumber parts = record {
  crossings = map (renamed_crossing (number_in (order_of (passes_through parts)))) parts.crossings;
  loops = parts.loops;
}

-- the name at a place of a component
abbrev pub name_in_component : List (List ℕ) → ℕ → ℕ → ℕ
name_in_component components at place = slice_index (slice_index_or components at []) place

-- components in order: none is empty; each goes round along the direction; its first name is its least; the first names ascend; and
-- each name stands once where it is a head, and else not
pub record AreOrdered (parts : Parts) (components : List (List ℕ)) : Type 0 where
  pub some : (at : ℕ) → at < length components → 1 ≤ length (slice_index_or components at [])
  pub onward : (at place : ℕ) → at < length components → place + 1 < length (slice_index_or components at [])
      → follows (passes_through parts) (name_in_component components at place) ≡ name_in_component components at (place + 1)
  pub round : (at place : ℕ) → at < length components → place + 1 ≡ length (slice_index_or components at [])
      → follows (passes_through parts) (name_in_component components at place) ≡ name_in_component components at 0
  pub least : (at place : ℕ) → at < length components → place < length (slice_index_or components at [])
      → name_in_component components at 0 ≤ name_in_component components at place
  pub ascending : (at later : ℕ) → at < later → later < length components
      → name_in_component components at 0 < name_in_component components later 0
  pub once : (name : ℕ) → count_by (nat_eq name) (all_of components) ≡ head_count parts name

-- names in order: those of components in order, one after another, each along its direction from its least name on; but one of two
-- arcs that is over at both its crossings begins with the arc that enters the first listed of them
pub record AreInOrder (parts : Parts) (order : List ℕ) : Type 0 where
  pub components : List (List ℕ)
  pub ordered : AreOrdered parts components
  pub begun : order ≡ flat_map (turned_names (label_entered (passes_through parts))) components
