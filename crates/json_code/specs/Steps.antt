-- What the functions of this crate compute, step by step. That it is the reading of a text is said by `read_json`, and by the
-- law `each_text_has_one_reading`.
use Rattle.std.specs.Prelude.{ℕ, ◌+◌, nat_lt, if◌then◌else◌, List, [], ◌∷◌, ◌++◌, length, Option, option_and_then, option_map, ok_or, Result, Ok, Err, slice_get}
use Rattle.std.specs.Option.{option_map_or}
use Rattle.std.specs.Str.{is_utf8}
use Rattle.kh_types.specs.Code.{Code}
use Rattle.kh_types.specs.declared.limits.TheConstants.{CROSSINGS}
use Rattle.serde_json.specs.Data.{Data, Items, no_items, item}
use Rattle.serde_json.specs.Find.{as_array, as_number, as_u64}
use Rattle.serde_json.specs.Read.{read}
use Rattle.json_code.specs.declared.stop.JsonStop.{JsonStop}
use Rattle.json_code.specs.declared.stop.JsonStop.TheVariants.{JsonText, Shape, CrossingLimit}
use Rattle.kh_types.specs.RawCodes.{arc_named}

-- the elements of an array, in order
abbrev pub elements_of : Items → List Data
elements_of no_items = []
elements_of (item element items) = element ∷ elements_of items

-- how many elements a value has, if it is an array
abbrev pub element_count : Data → ℕ
element_count value = option_map_or (λ items. length (elements_of items)) (as_array value) 0

-- what a value gives, or the stop in its place, and then a next step
abbrev pub and_then : {A B : Type 0} → (A → Result B JsonStop) → Result A JsonStop → Result B JsonStop
and_then next (Ok value) = next value
and_then next (Err stop) = Err stop

-- the number that a value is, if it is one
abbrev pub number_of_value : Data → Option ℕ
number_of_value value = option_and_then as_u64 (as_number value)

-- the arc at a slot of the members of a crossing
abbrev pub json_arc_at : ℕ → ℕ → List Data → Result ℕ JsonStop
json_arc_at crossing slot members =
    ok_or (option_map arc_named (option_and_then number_of_value (slice_get members slot))) (Shape crossing slot)

-- the arcs, unless there is a fifth member
abbrev pub if_four : ℕ → List Data → List ℕ → Result (List ℕ) JsonStop
if_four crossing members arcs = if nat_lt 4 (length members) then Err (Shape crossing 4) else Ok arcs

-- the arcs at the four slots
abbrev pub json_arcs_at : ℕ → List Data → Result (List ℕ) JsonStop
json_arcs_at crossing members =
    and_then (λ i. and_then (λ j. and_then (λ k. and_then (λ l. if_four crossing members (i ∷ j ∷ k ∷ l ∷ []))
    (json_arc_at crossing 3 members)) (json_arc_at crossing 2 members)) (json_arc_at crossing 1 members)) (json_arc_at crossing 0 members)

-- the crossing that an element is
abbrev pub crossing_in_element : ℕ → Data → Result (List ℕ) JsonStop
crossing_in_element crossing element =
    option_map_or (λ items. json_arcs_at crossing (elements_of items)) (as_array element) (Err (Shape crossing 0))

-- crossings before others
abbrev pub after_crossings : List (List ℕ) → Result (List (List ℕ)) JsonStop → Result (List (List ℕ)) JsonStop
after_crossings earlier (Ok crossings) = Ok (earlier ++ crossings)
after_crossings earlier (Err stop) = Err stop

-- the crossings that elements are, numbered from a number on
abbrev pub crossings_from : ℕ → List Data → Result (List (List ℕ)) JsonStop
crossings_from number [] = Ok []
crossings_from number (element ∷ elements) =
    and_then (λ crossing. after_crossings (crossing ∷ []) (crossings_from (number + 1) elements)) (crossing_in_element number element)

-- the code of crossings
abbrev pub code_of_crossings : List (List ℕ) → Result Code JsonStop
code_of_crossings crossings = Ok (record { crossings = crossings; loops = 0 })

-- the code that the elements of an array stand for
abbrev pub code_of_elements : List Data → Result Code JsonStop
code_of_elements elements =
    if nat_lt CROSSINGS (length elements) then Err (CrossingLimit (length elements))
    else and_then code_of_crossings (crossings_from 1 elements)

-- the code that a value stands for
abbrev pub json_code_of : Data → Result Code JsonStop
json_code_of value = option_map_or (λ items. code_of_elements (elements_of items)) (as_array value) (Err (Shape 0 0))

-- the code that a text stands for, or why there is none
unfoldable pub json_reading_of : List ℕ → Result Code JsonStop
json_reading_of text = if is_utf8 text then option_map_or json_code_of (read text) (Err JsonText) else Err JsonText
