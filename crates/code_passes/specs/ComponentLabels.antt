-- The labels of the passes of a code, along its components (Knot Atlas, "Gauss Codes").
use Rattle.std.specs.Prelude.{ℕ, List, map, nat_eq, if◌then◌else◌, ℤ, pos, neg_ℤ}
use Rattle.std.specs.List.{range_with_len}
use Rattle.kh_types.specs.Components.{arcs_in, components_of, first_arcs}
use Rattle.kh_types.specs.Directions.{head_of}
use Rattle.kh_types.specs.declared.dart.Dart.{Dart}

-- the label of the pass that has its head at a dart: the crossing where it passes over, and minus the crossing where it passes under,
-- which is at slot 0
abbrev pub label_at : Dart → ℤ
label_at dart = if nat_eq dart.slot 0 then neg_ℤ (pos dart.crossing) else pos dart.crossing

-- the label of the pass that an arc enters
abbrev pub entering_label : List (List ℕ) → ℕ → ℤ
entering_label crossings arc = label_at (head_of crossings arc)

-- the labels of a component, which is given by its least arc, from the pass on that this arc enters
abbrev pub component_labels : List (List ℕ) → ℕ → List ℤ
component_labels crossings first =
    map (entering_label crossings) (range_with_len first (arcs_in (components_of crossings) first))

-- the labels of all components, in order
abbrev pub labels_of_code : List (List ℕ) → List (List ℤ)
labels_of_code crossings = map (component_labels crossings) (first_arcs crossings)
