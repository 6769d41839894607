-- The components of crossings over names.
use Rattle.std.specs.Prelude.{ℕ, ◌+◌, List, ◌&&◌}
use Rattle.std.specs.List.{count_by, flat_map, range_with_len}
use Rattle.kh_types.specs.Classes.{classes_of, is_least}
use Rattle.kh_types.specs.Components.{passes_of}
use Rattle.code_passes.specs.Parts.{Parts}
use Rattle.kink_and_finger_laws.specs.Drops.{stands_in}

-- how many classes of names below a bound the pairs make, of those that stand at some crossing
abbrev pub standing_class_count : ℕ → List (List ℕ) → List (ℕ × ℕ) → ℕ
standing_class_count bound crossings pairs =
    count_by (λ name. is_least (classes_of bound pairs) name && stands_in crossings name) (range_with_len 0 bound)

-- the components of crossings over names below a bound, and the loops
abbrev pub parts_component_count : ℕ → Parts → ℕ
parts_component_count bound parts =
    standing_class_count bound parts.crossings (flat_map passes_of parts.crossings) + parts.loops
