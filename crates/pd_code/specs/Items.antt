-- The items that a text lists, and the code that they stand for.
use Rattle.std.specs.Prelude.{ℕ, Bool, true, false, List, [], ◌∷◌, Option, None, Some, count_by, ℤ, pos, negsuc}
use Rattle.std.specs.List.{filter_map}
use Rattle.kh_types.specs.Code.{Code}
use Rattle.kh_types.specs.RawCodes.{arc_named}
use Rattle.pd_code.specs.declared.item.Item.{Item}
use Rattle.pd_code.specs.declared.item.Item.TheVariants.{Crossing, Loop}

-- the arc that a number with its sign names; 0, which is no arc, for one below 0
abbrev pub signed_arc_named : ℤ → ℕ
signed_arc_named (pos n) = arc_named n
signed_arc_named (negsuc n) = 0

-- the slots of an item that is a crossing, each by its arc
abbrev pub slots_of_item : Item → Option (List ℕ)
slots_of_item (Crossing i j k l) = Some (signed_arc_named i ∷ signed_arc_named j ∷ signed_arc_named k ∷ signed_arc_named l ∷ [])
slots_of_item (Loop n) = None

-- an item is a loop
abbrev pub is_loop_item : Item → Bool
is_loop_item (Crossing i j k l) = false
is_loop_item (Loop n) = true

-- the crossings among items, in order
abbrev pub crossings_among : List Item → List (List ℕ)
crossings_among items = filter_map slots_of_item items

-- how many loops there are among items; their numbers are not used
abbrev pub loop_item_count : List Item → ℕ
loop_item_count items = count_by is_loop_item items

-- the code that items stand for
abbrev pub code_of_items : List Item → Code
code_of_items items = record { crossings = crossings_among items; loops = loop_item_count items }
