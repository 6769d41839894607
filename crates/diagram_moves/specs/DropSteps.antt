-- What is left where two crossings are dropped, place by place.
use Rattle.std.specs.Prelude.{ℕ, List, map, nat_eq, Bool, not, ◌&&◌, ◌||◌}
use Rattle.std.specs.List.{filter, range_with_len}
use Rattle.kh_types.specs.Directions.{positive_at}
use Rattle.kh_types.specs.Classes.{is_least}
use Rattle.kh_types.specs.Code.{arc_in}
use Rattle.kh_types.specs.Components.{passes_of}
use Rattle.kink_and_finger_laws.specs.Drops.{is_of_two, renamed_slots, stands_in}
use Rattle.code_passes.specs.Parts.{slots_in}

-- the crossing at a place is neither of two
abbrev pub stays : ℕ → ℕ → ℕ → Bool
stays first second place = not (is_of_two first second place)

-- the passes of the crossing at a place
abbrev pub passes_there : List (List ℕ) → ℕ → List (ℕ × ℕ)
passes_there crossings place = passes_of (slots_in crossings place)

-- the crossing at a place under other names
abbrev pub renamed_there : List (List ℕ) → List ℕ → ℕ → List ℕ
renamed_there crossings names place = renamed_slots names (slots_in crossings place)

-- the others among them, under other names
abbrev pub kept_to : List (List ℕ) → List ℕ → ℕ → ℕ → ℕ → List (List ℕ)
kept_to crossings names first second count =
    map (renamed_there crossings names) (filter (stays first second) (range_with_len 0 count))

-- whether the others among them are positive
abbrev pub signs_to : List (List ℕ) → ℕ → ℕ → ℕ → List Bool
signs_to crossings first second count = map (positive_at crossings) (filter (stays first second) (range_with_len 0 count))

-- whether an arc names a class that stands at no crossing that stays
abbrev pub is_ring_in : List ℕ → List (List ℕ) → ℕ → Bool
is_ring_in names kept arc = is_least names arc && not (stands_in kept arc)

-- whether a name stands at a crossing
abbrev pub stands_at : ℕ → List ℕ → Bool
stands_at name slots =
    nat_eq (arc_in slots 0) name || (nat_eq (arc_in slots 1) name || (nat_eq (arc_in slots 2) name || nat_eq (arc_in slots 3) name))
