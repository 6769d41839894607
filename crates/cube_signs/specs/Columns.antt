-- The columns of a block, as they are read off the edges out of a state, and what they denote.
use Rattle.std.specs.Prelude.{◌≡◌, ℕ, ◌+◌, ◌-◌, ◌%◌, ◌^◌, ◌<◌, ℤ, pos, neg_ℤ, ◌+ℤ◌, ◌≤ℤ◌, List, [], ◌∷◌, length, map, nat_eq, if◌then◌else◌, slice_index, slice_index_or, Option, None, Some, Bool, true, not, All}
use Rattle.std.specs.List.{flat_map, last_or, range_with_len}
use Rattle.kh_types.specs.declared.limits.TheConstants.{CIRCLES}
use Rattle.kh_types.specs.Bits.{ones}
use Rattle.kh_types.specs.Code.{Code}
use Rattle.kh_types.specs.Differential.{coefficient}
use Rattle.kh_types.specs.Circles.{circle_count}
use Rattle.kh_types.specs.Generators.{Generator, generator_of, generators_at, has_degrees}
use Rattle.kh_types.specs.History.{is_empty}
use Rattle.kh_types.specs.Table.{from_minus}
use Rattle.circle_smoothing.specs.Edges.{HasNumbersBelow}
use Rattle.circle_smoothing.specs.declared.change.Edge.{Edge}
use Rattle.sparse_block.specs.declared.entry.TheConstants.{MOST_VALUES}
use Rattle.sparse_block.specs.Entries.{Entry, entry_at, value_at, AreEntries}
use Rattle.sparse_block.specs.Complexes.{sparse_complex, HaveEntries, SquaresToZero}
use Rattle.cube_signs.specs.declared.limits.TheConstants.{DEGREES, PLACES}
use Rattle.cube_signs.specs.declared.outs.Out.{Out}
use Rattle.cube_signs.specs.Blocks.{named_block}
use Rattle.cube_signs.specs.Heads.{labels_behind}
use Rattle.cube_signs.specs.Steps.{HasSteps}

-- the sign of the edge at the crossing of a place, as `edge_sign` of the crossing: by how many crossings before it have their
-- 1-smoothing
abbrev pub edge_sign_at : ℕ → ℕ → ℕ → ℕ
edge_sign_at p state place = if nat_eq (ones place state % 2) 0 then 1 else p - 1

-- the entry of a generator behind an edge: it stands after the generators of the states before its own, and those of its own state
-- with a lesser label
abbrev pub head_entry : ℕ → List ℕ → ℕ → ℕ → Entry
head_entry base ranks sign label = entry_at (base + slice_index ranks label, sign)

-- the edge out of a state at a place, if one begins there, with the place of the first generator of the state behind it, and its sign
abbrev pub out_along : ℕ → List ℕ → ℕ → ℕ → Option Edge → List Out
out_along sign bases state place None = []
out_along sign bases state place (Some change) =
    record { change = change; base = slice_index bases (state + 2 ^ place); sign = sign } ∷ []

-- the same, of the edges in a list
unfoldable pub outs_at : ℕ → List (Option Edge) → List ℕ → ℕ → ℕ → List Out
outs_at p steps bases state place = out_along (edge_sign_at p state place) bases state place (slice_index_or steps place None)

-- those at all places before one
abbrev pub outs_to : ℕ → List (Option Edge) → List ℕ → ℕ → ℕ → List Out
outs_to p steps bases state count = flat_map (outs_at p steps bases state) (range_with_len 0 count)

-- the entries along an edge out of a label's generator
abbrev pub out_entries : List ℕ → ℕ → Out → List Entry
out_entries ranks label out = map (head_entry out.base ranks out.sign) (labels_behind out.change label)

-- the entries along edges out of it, one edge after another
abbrev pub column_along : List ℕ → ℕ → List Out → List Entry
column_along ranks label outs = flat_map (out_entries ranks label) outs

-- the numbers of circles that edges name are small
abbrev pub IsSmall : Option Edge → Type 0
IsSmall None = Unit {0}
IsSmall (Some change) = HasNumbersBelow CIRCLES change

pub record AreSmall (steps : List (Option Edge)) : Type 0 where
  pub each : (place : ℕ) → place < length steps → IsSmall (slice_index_or steps place None)

-- so are those of an edge out of a state, the place behind it, and its sign
pub record IsSmallOut (out : Out) : Type 0 where
  pub numbers : HasNumbersBelow CIRCLES out.change
  pub base : out.base < PLACES
  pub sign : out.sign < MOST_VALUES

-- the edges are those out of a state, in the order of their places
pub record AreOuts (p : ℕ) (code : Code) (bases : List ℕ) (state : ℕ) (outs : List Out) : Type 0 where
  pub steps : List (Option Edge)
  pub of_steps : HasSteps code state (length code.crossings) steps
  pub are : outs ≡ outs_to p steps bases state (length steps)
  pub small : All IsSmallOut outs

-- the edges that were found last are those out of their state, if it is a state
abbrev pub AreFound : ℕ → Code → List ℕ → ℕ → List Out → Type 0
AreFound p code bases state outs = state < 2 ^ length code.crossings → AreOuts p code bases state outs

-- entries are the column of a generator of the degrees i and j: those of its coefficients to the generators of the next degree
pub record IsColumn (p : ℕ) (code : Code) (i j : ℤ) (tail : Generator) (entries : List Entry) : Type 0 where
  pub are : AreEntries p (length (generators_at code (i +ℤ pos 1) j)) entries
  pub values : (row : ℕ) → row < length (generators_at code (i +ℤ pos 1) j)
      → value_at entries row ≡ coefficient p code tail (slice_index_or (generators_at code (i +ℤ pos 1) j) row (generator_of 0 0))

-- the last entry of the column of a generator of the degrees i and j; none where it has no entry
pub record IsLastOf (p : ℕ) (code : Code) (i j : ℤ) (tail : Generator) (last : Option Entry) : Type 0 where
  pub entries : List Entry
  pub are : IsColumn p code i j tail entries
  pub is : last ≡ last_or None entries

-- a generator of the degrees i and j
pub record IsTail (code : Code) (i j : ℤ) (tail : Generator) : Type 0 where
  pub state_below : tail.state < 2 ^ length code.crossings
  pub label_below : tail.label < 2 ^ circle_count code tail.state
  pub passes : has_degrees code i j tail ≡ true

-- columns are those of the first of some generators of the degrees i and j
pub record AreColumns (p : ℕ) (code : Code) (i j : ℤ) (tails : List Generator) (count : ℕ) (columns : List (List Entry)) : Type 0 where
  pub size : length columns ≡ count
  pub each : (k : ℕ) → k < count
      → IsColumn p code i j (slice_index_or tails k (generator_of 0 0)) (slice_index_or columns k [])

-- columns are those of all generators of the degrees i and j
abbrev pub AreWholeColumns : ℕ → Code → ℤ → ℤ → List (List Entry) → Type 0
AreWholeColumns p code i j columns = AreColumns p code i j (generators_at code i j) (length (generators_at code i j)) columns

-- lists of columns are those of all generators of the degrees from a least one on, and the quantum degree j
pub record AreAllColumns (p : ℕ) (code : Code) (low j : ℤ) (count : ℕ) (columns : List (List (List Entry))) : Type 0 where
  pub size : length columns ≡ count
  pub each : (k : ℕ) → k < count → AreWholeColumns p code (low +ℤ pos k) j (slice_index_or columns k [])

-- the generators of the degrees from a least one on
abbrev pub generators_from : Code → ℤ → ℤ → ℕ → List (List Generator)
generators_from code low j count = map (λ k. generators_at code (low +ℤ pos k) j) (range_with_len 0 count)

-- whether each homological degree that there can be has a generator of the quantum degree j
unfoldable pub flags_of : Code → ℤ → List Bool
flags_of code j = map (λ i. not (is_empty (generators_at code i j))) (from_minus (length code.crossings))

-- names and columns, by degree from a least one on, of which the block at the quantum degree j is made
pub record AreParts (p : ℕ) (code : Code) (j low : ℤ) (names : List (List Generator)) (columns : List (List (List Entry))) : Type 0 where
  pub some : 0 < length names
  pub start : neg_ℤ (pos DEGREES) ≤ℤ low
  pub end : (low +ℤ pos (length names)) ≤ℤ pos DEGREES
  pub counts : All (λ degree. length degree < 2 ^ 29) names
  pub sizes : map length columns ≡ map length names
  pub entries : HaveEntries p names columns
  pub squares : SquaresToZero p (sparse_complex low names columns).complex
  pub is : sparse_complex low names columns ≡ named_block p code j
