-- JSON texts and their values (RFC 8259), in the words of the crate `serde_json`.
use Rattle.std.specs.Prelude.{◌≡◌, ℕ, List, map, Some, IsUtf8}
use Rattle.serde_json.specs.Data.{Data, number, unsigned, array}
use Rattle.serde_json.specs.Read.{read}
use Rattle.serde_json.specs.View.{items_of}

-- a text is the JSON of a value: its bytes are UTF-8, and `serde_json` reads them as the value
pub record IsJson (text : List ℕ) (value : Data) : Type 0 where
  pub utf8 : IsUtf8 text
  pub meaning : read text ≡ Some value

-- the array of elements
abbrev pub array_of : List Data → Data
array_of elements = array (items_of elements)

-- a number from 0 to 2 ^ 64 - 1 that is written without sign, point and exponent. It is the one value for which `as_u64`
-- gives this number: the law `as_u64_gives_whole_numbers`
abbrev pub whole_number : ℕ → Data
whole_number n = number (unsigned n)

-- the array of such numbers
abbrev pub array_of_numbers : List ℕ → Data
array_of_numbers numbers = array_of (map whole_number numbers)
