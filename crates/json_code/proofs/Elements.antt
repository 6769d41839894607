-- The elements of an array as a list.
use Rattle.std.proofs.Common.{◌≡◌, List, [], ◌∷◌, map, Some, refl, sym, ◌∙◌, ap}
use Rattle.std.specs.Option.{option_map_or}
use Rattle.serde_json.specs.Data.{Data, Items, no_items, item}
use Rattle.serde_json.specs.Find.{as_array}
use Rattle.serde_json.specs.View.{items_of, items_view, view}
use Rattle.serde_json.specs.declared.value.Value.{Value}
use Rattle.json_code.specs.Steps.{elements_of}

-- the elements of the array of some are those
pub elements_of-items_of : (elements : List Data) → elements_of (items_of elements) ≡ elements
elements_of-items_of [] = refl
elements_of-items_of (element ∷ elements) = ap (λ l. element ∷ l) (elements_of-items_of elements)

-- the array of its elements is the array
pub items_of-elements_of : (items : Items) → items_of (elements_of items) ≡ items
items_of-elements_of no_items = refl
items_of-elements_of (item element items) = ap (item element) (items_of-elements_of items)

-- what is made of an array's elements, where it is seen as its values
pub of_array : {T : Type 0} (f : List Data → T) (other : T) (value : Data) (values : List Value) → Some (items_view values) ≡ as_array value
    → option_map_or (λ items. f (elements_of items)) (as_array value) other ≡ f (map view values)
of_array f other value values is =
    ap (λ found. option_map_or (λ items. f (elements_of items)) found other) (sym is) ∙ ap f (elements_of-items_of (map view values))
