-- Components as lists of labels, and the passes and crossings that they stand for, with signs (Knot Atlas, "Gauss Codes"; the numbers
-- of arcs are this project's rule).
use Rattle.std.specs.Prelude.{ℕ, ◌+◌, ◌/◌, List, [], ◌∷◌, ◌++◌, length, map, nat_eq, ◌&&◌, Bool, ℤ, pos, neg_ℤ, int_lt, if◌then◌else◌, unwrap_or}
use Rattle.std.specs.List.{find, flat_map, range_with_len}
use Rattle.std.specs.Ordering.{int_eq}
use Rattle.code_passes.specs.Labels.{listed_number}

-- a pass of a component at a crossing: its label is the number of the crossing where it passes over, and minus the number where
-- it passes under; it enters on an arc, and leaves on an arc
pub record Pass : Type 0 where
  pub label : ℤ
  pub enters : ℕ
  pub leaves : ℕ

-- whether a label is that of an over pass
abbrev pub is_over : ℤ → Bool
is_over label = int_lt (pos 0) label

-- a component that is over at both of its two crossings begins with the lesser label, as its arcs do in an accepted code; every
-- other component begins as it is listed
abbrev pub turned_labels : List ℤ → List ℤ
turned_labels (first ∷ second ∷ []) =
    if (is_over first && is_over second) && int_lt second first then second ∷ first ∷ [] else first ∷ second ∷ []
turned_labels labels = labels

-- the pass at a place of a component whose first arc is given: it enters on the arc of its place, and leaves on the next, the last
-- on the first arc
abbrev pub pass_at : ℕ → List ℤ → ℕ → Pass
pass_at first labels at = record {
  label = listed_number labels at;
  enters = first + at;
  leaves = if nat_eq (at + 1) (length labels) then first else first + at + 1;
}

-- the passes of a component
abbrev pub passes_from : ℕ → List ℤ → List Pass
passes_from first labels = map (pass_at first labels) (range_with_len 0 (length labels))

-- the passes of components, whose arcs follow those of the component before
abbrev pub all_passes : ℕ → List (List ℤ) → List Pass
all_passes first [] = []
all_passes first (labels ∷ more) = passes_from first (turned_labels labels) ++ all_passes (first + length labels) more

-- no pass
abbrev pub no_pass : Pass
no_pass = record { label = pos 0; enters = 0; leaves = 0 }

-- the pass with a label
abbrev pub pass_of : List Pass → ℤ → Pass
pass_of passes label = unwrap_or (find (λ pass. int_eq pass.label label) passes) no_pass

-- the slots of a crossing with a sign, given its under pass and its over pass, counterclockwise from the arc on which the under pass
-- enters: the over pass goes from slot 3 to slot 1 where the crossing is positive, else from slot 1 to slot 3
abbrev pub slots_between : Pass → Pass → ℤ → List ℕ
slots_between under over sign =
    if int_eq sign (pos 1) then under.enters ∷ over.leaves ∷ under.leaves ∷ over.enters ∷ []
    else under.enters ∷ over.enters ∷ under.leaves ∷ over.leaves ∷ []

-- the slots of a crossing, given by its place
abbrev pub slots_by_passes : List Pass → List ℤ → ℕ → List ℕ
slots_by_passes passes signs at =
    slots_between (pass_of passes (neg_ℤ (pos (at + 1)))) (pass_of passes (pos (at + 1))) (listed_number signs at)

-- the labels of some components
abbrev pub all_labels : List (List ℤ) → List ℤ
all_labels groups = flat_map (λ labels. labels) groups

-- the number of crossings of components
abbrev pub crossings_in : List (List ℤ) → ℕ
crossings_in groups = length (all_labels groups) / 2

-- the crossings of some components and signs
abbrev pub crossings_of : List (List ℤ) → List ℤ → List (List ℕ)
crossings_of groups signs = map (slots_by_passes (all_passes 1 groups) signs) (range_with_len 0 (crossings_in groups))
