-- What a JSON text reads as.
use Rattle.std.specs.Prelude.{◌≡◌, ◌≢◌, ℕ, ◌+◌, ◌<◌, ◌≤◌, ◌⊎◌, List, ◌∷◌, ◌++◌, length, map, All, Some, Result, Ok, Err, slice_get}
use Rattle.kh_types.specs.Code.{Code}
use Rattle.kh_types.specs.RawCodes.{arc_named}
use Rattle.kh_types.specs.declared.limits.TheConstants.{CROSSINGS}
use Rattle.serde_json.specs.Data.{Data}
use Rattle.json_code.specs.declared.stop.JsonStop.{JsonStop}
use Rattle.json_code.specs.declared.stop.JsonStop.TheVariants.{JsonText, Shape, CrossingLimit, NoMemory}
use Rattle.json_code.specs.Values.{IsJson, array_of, whole_number, array_of_numbers}

-- there are four numbers
abbrev pub HasFour : List ℕ → Type 0
HasFour numbers = length numbers ≡ 4

-- a text reads as a code: it is an array of arrays of four numbers, at most `CROSSINGS` of them; the crossings are the arcs
-- that the numbers name, and there are no loops
pub record ReadsAsJson (text : List ℕ) (code : Code) : Type 0 where
  pub quadruples : List (List ℕ)
  pub json : IsJson text (array_of (map array_of_numbers quadruples))
  pub fours : All HasFour quadruples
  pub within : length quadruples ≤ CROSSINGS
  pub arcs : code.crossings ≡ map (map arc_named) quadruples
  pub no_loops : code.loops ≡ 0

-- a text is no JSON
abbrev pub IsNoJson : List ℕ → Type 0
IsNoJson text = (value : Data) → ¬ IsJson text value

-- a value is no array
abbrev pub IsNoArray : Data → Type 0
IsNoArray value = (elements : List Data) → value ≢ array_of elements

-- a text is JSON, but no array; the crossing and the slot are 0
pub record IsOtherJson (text : List ℕ) (crossing slot : ℕ) : Type 0 where
  pub value : Data
  pub json : IsJson text value
  pub no_array : IsNoArray value
  pub no_crossing : crossing ≡ 0
  pub no_slot : slot ≡ 0

-- a text has too many crossings: it is an array of so many elements, whatever these are, and they are above the limit
pub record HasManyElements (text : List ℕ) (count : ℕ) : Type 0 where
  pub elements : List Data
  pub json : IsJson text (array_of elements)
  pub counted : count ≡ length elements
  pub above : CROSSINGS < count

-- a slot holds a number: one of the members stands there, and it is a whole number
abbrev pub HoldsNumber : List Data → ℕ → Type 0
HoldsNumber members slot = (n : ℕ) × (slice_get members slot ≡ Some (whole_number n))

-- a slot is the first that is wrong: each slot before it holds a number; and it is one of 0 to 3 and holds none, or it is 4
-- and there are more than four members
pub record IsWrongSlot (members : List Data) (slot : ℕ) : Type 0 where
  pub before : (earlier : ℕ) → earlier < slot → HoldsNumber members earlier
  pub here : ((slot < 4) × ¬ HoldsNumber members slot) ⊎ ((slot ≡ 4) × (4 < length members))

-- an element is wrong at a slot: it is no array, and the slot is 0; or it is the array of members, and the slot is the first
-- of them that is wrong
abbrev pub IsWrongAt : Data → ℕ → Type 0
IsWrongAt element slot =
    (IsNoArray element × (slot ≡ 0)) ⊎ ((members : List Data) × (element ≡ array_of members) × IsWrongSlot members slot)

-- a text has a wrong crossing: it is an array of at most `CROSSINGS` elements, of which the first are arrays of four numbers,
-- and the next is wrong at a slot; the number of that crossing, from 1, is one more than there are before it
pub record HasWrongCrossing (text : List ℕ) (crossing slot : ℕ) : Type 0 where
  pub quadruples : List (List ℕ)
  pub element : Data
  pub later : List Data
  pub json : IsJson text (array_of (map array_of_numbers quadruples ++ element ∷ later))
  pub within : length (map array_of_numbers quadruples ++ element ∷ later) ≤ CROSSINGS
  pub fours : All HasFour quadruples
  pub wrong : IsWrongAt element slot
  pub numbered : crossing ≡ length quadruples + 1

-- what the reading of a text comes to: a code, or why there is none; running out of memory is no reading
abbrev pub IsJsonReading : List ℕ → Result Code JsonStop → Type 0
IsJsonReading text (Ok code) = ReadsAsJson text code
IsJsonReading text (Err JsonText) = IsNoJson text
IsJsonReading text (Err (Shape crossing slot)) = IsOtherJson text crossing slot ⊎ HasWrongCrossing text crossing slot
IsJsonReading text (Err (CrossingLimit count)) = HasManyElements text count
IsJsonReading text (Err NoMemory) = ⊥
