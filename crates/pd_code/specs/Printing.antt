-- The text of a code in print (Knot Atlas, "Planar Diagrams"; the spaces and the loops are this project's rule).
use Rattle.std.specs.Prelude.{◌≡◌, ℕ, ◌+◌, ◌≤◌, length, List, [], ◌∷◌, ◌++◌, map, codes, pos}
use Rattle.std.specs.Fmt.{signed_decimal}
use Rattle.std.specs.List.{flat_map, range_with_len}
use Rattle.kh_types.specs.declared.limits.TheConstants.{GREATEST_ARC}
use Rattle.kh_types.specs.Code.{Code, arc_count, arc_in}
use Rattle.pd_code.specs.declared.item.Item.{Item}
use Rattle.pd_code.specs.declared.item.Item.TheVariants.{Crossing, Loop}

-- slots as a crossing holds them: there are four, and each has an arc that is a byte
pub record HasFourSlots (slots : List ℕ) : Type 0 where
  pub four : length slots ≡ 4
  pub bytes : (slot : ℕ) → arc_in slots slot ≤ GREATEST_ARC

-- the item of a crossing, by the arcs at its slots 0 to 3
abbrev pub crossing_item : List ℕ → Item
crossing_item slots =
    Crossing (pos (arc_in slots 0)) (pos (arc_in slots 1)) (pos (arc_in slots 2)) (pos (arc_in slots 3))

-- the item of a loop, by its name
abbrev pub loop_item : ℕ → Item
loop_item name = Loop (pos name)

-- the names of the loops of a code, which follow those of its arcs
abbrev pub loop_names : Code → List ℕ
loop_names code = range_with_len (arc_count code.crossings + 1) code.loops

-- the items of a code: its crossings in order, then its loops
abbrev pub items_of_code : Code → List Item
items_of_code code = map crossing_item code.crossings ++ map loop_item (loop_names code)

-- an item in print: `X[i, j, k, l]` or `Loop[n]`
abbrev pub item_text : Item → List ℕ
item_text (Crossing i j k l) =
    codes "X[" ++ (signed_decimal i ++ (codes ", " ++ (signed_decimal j ++ (codes ", "
    ++ (signed_decimal k ++ (codes ", " ++ (signed_decimal l ++ codes "]")))))))
item_text (Loop n) = codes "Loop[" ++ (signed_decimal n ++ codes "]")

-- an item behind a comma and a space
abbrev pub next_text : Item → List ℕ
next_text item = codes ", " ++ item_text item

-- items in print, with a comma and a space between any two
abbrev pub listed_text : List Item → List ℕ
listed_text [] = []
listed_text (item ∷ items) = item_text item ++ flat_map next_text items

-- the text that lists items: `PD[`, the items and `]`
abbrev pub text_of_items : List Item → List ℕ
text_of_items items = codes "PD[" ++ (listed_text items ++ codes "]")

-- the text of a code
abbrev pub pd_text : Code → List ℕ
pd_text code = text_of_items (items_of_code code)
