-- Reduced columns as they are stored, most without their entries, and what a search among them finds.
use Rattle.std.specs.Prelude.{◌≡◌, ◌≢◌, ℕ, ◌+◌, ◌<◌, ℤ, pos, ◌+ℤ◌, ◌≤ℤ◌, List, [], ◌∷◌, ◌++◌, length, map, get_or, slice_index_or, Option, Some, None, Bool, false, All, if◌then◌else◌}
use Rattle.std.specs.List.{fold, range_with_len}
use Rattle.std.specs.Option.{option_map}
use Rattle.std.specs.Global.{Vec}
use Rattle.kh_types.specs.Complex.{Complex, IsComplex, Pivot, entry_of}
use Rattle.kh_types.specs.History.{IsLegal, replay}
use Rattle.sparse_block.specs.Clearing.{with_dead}
use Rattle.sparse_block.specs.Complexes.{place_count}
use Rattle.sparse_block.specs.Entries.{Entry, AreEntries, entries_of, value_at}
use Rattle.sparse_block.specs.LinePairs.{factor_at, line_less}
use Rattle.column_reduction.specs.Reductions.{AreReduced, AreReducedColumns, AreReducedUp, EndsAt, HaveNoEntryBelow, IsLeftOf, ReducedColumn, is_last_row, is_place_alive, pivots_from_greatest, pivots_of}

-- a reduced column as it is stored: its number in the matrix, the row of its last entry, and its entries. Where none are kept, they are
-- those of the matrix's own column: what is said of stored columns below is said of them with all their entries, as `full_column` has them
pub record StoredColumn : Type 0 where
  pub column : ℕ
  pub row : ℕ
  pub entries : List Entry

-- the column of this number that ends at this row, with these entries
abbrev pub stored_column : ℕ → ℕ → List Entry → StoredColumn
stored_column column row entries = record { column = column; row = row; entries = entries }

-- column 0 with no entry
abbrev pub no_column : StoredColumn
no_column = stored_column 0 0 []

-- the entries of a column of the matrix out of degree i
abbrev pub own_entries : Complex → ℤ → ℕ → List Entry
own_entries complex i column =
    entries_of (map (λ row. entry_of complex i row column) (range_with_len 0 (place_count complex (i +ℤ pos 1))))

-- the entries that are kept, and others where none are
abbrev pub kept_or : List Entry → List Entry → List Entry
kept_or [] own = own
kept_or (first ∷ rest) own = first ∷ rest

-- a stored column of degree number k with all its entries: where none are kept, with those of the matrix's own column
abbrev pub full_column : Complex → ℕ → StoredColumn → StoredColumn
full_column complex k stored =
    stored_column stored.column stored.row (kept_or stored.entries (own_entries complex (complex.low +ℤ pos k) stored.column))

-- stored columns with all their entries
abbrev pub full_columns : Complex → ℕ → List StoredColumn → List StoredColumn
full_columns complex k stored = map (full_column complex k) stored

-- the reduced column that is stored
abbrev pub reduced_column : StoredColumn → ReducedColumn
reduced_column stored = record { column = stored.column; row = stored.row; values = value_at stored.entries }

-- the reduced columns that are stored
abbrev pub reduced_columns : List StoredColumn → List ReducedColumn
reduced_columns stored = map reduced_column stored

-- the pivots of stored columns of degree i
abbrev pub stored_pivots : ℤ → List StoredColumn → List Pivot
stored_pivots i stored = pivots_of i (reduced_columns stored)

-- stored columns are reduced, no two end at one row, and each owns the row where it ends: the owner of a row is the number of the
-- stored column that ends there, and none where no one does
pub record AreStored (p : ℕ) (stored : List StoredColumn) (owners : List (Option ℕ)) : Type 0 where
  pub columns : AreReducedColumns p (reduced_columns stored)
  pub entries : All (λ line. AreEntries p (length owners) line.entries) stored
  pub none : (row : ℕ) → row < length owners → slice_index_or owners row None ≡ None → is_last_row row (reduced_columns stored) ≡ false
  pub some : (row number : ℕ) → slice_index_or owners row None ≡ Some number
      → (number < length stored) × ((get_or stored number no_column).row ≡ row)

-- the row of the last entry; 0 where there is none
abbrev pub last_place : List Entry → ℕ
last_place [] = 0
last_place (first ∷ rest) = (get_or (first ∷ rest) (length rest) first).place

-- one more than the row of the last entry; 0 where there is none
abbrev pub end_of : List Entry → ℕ
end_of [] = 0
end_of (first ∷ rest) = last_place (first ∷ rest) + 1

-- the owner of the row where a line ends; none where it has no entry
abbrev pub owner_in : List (Option ℕ) → List Entry → Option ℕ
owner_in owners [] = None
owner_in owners (first ∷ rest) = slice_index_or owners (last_place (first ∷ rest)) None

-- a line ends at the last row of no reduced column
abbrev pub IsFree : List ReducedColumn → (ℕ → ℕ) → Type 0
IsFree reduced values = (row : ℕ) → EndsAt row values → is_last_row row reduced ≡ false

-- a line has been reduced: it is left of another as multiples of stored columns were taken away, and ends at the last row of none
pub record IsReducedLine (p size : ℕ) (stored : List StoredColumn) (whole rest : List Entry) : Type 0 where
  pub left : IsLeftOf p (reduced_columns stored) (value_at whole) (value_at rest)
  pub entries : AreEntries p size rest
  pub free : IsFree (reduced_columns stored) (value_at rest)

-- the stored columns, and one more where something is left of it
abbrev pub stored_with : List StoredColumn → ℕ → List Entry → List StoredColumn
stored_with stored column [] = stored
stored_with stored column (first ∷ rest) = stored ++ stored_column column (last_place (first ∷ rest)) (first ∷ rest) ∷ []

-- entries are a column of the matrix out of degree i, or none where its place is dead
pub record IsLiveColumn (p : ℕ) (complex : Complex) (i : ℤ) (is_alive : Bool) (column : ℕ) (entries : List Entry) : Type 0 where
  pub are : AreEntries p (place_count complex (i +ℤ pos 1)) entries
  pub values : (row : ℕ) → value_at entries row ≡ (if is_alive then entry_of complex i row column else 0)

-- the entries of a line less the multiple of another that makes it 0 at a row
abbrev pub entries_less : ℕ → ℕ → ℕ → List Entry → List Entry → List Entry
entries_less p size row line others = entries_of (line_less p size line (factor_at p others line row) others)

-- what is stored of a line, with its entries: nothing where it has none
abbrev pub IsStoredAs : ℕ → List Entry → Option StoredColumn → Type 0
IsStoredAs column left None = left ≡ []
IsStoredAs column left (Some found) = (left ≢ []) × (found ≡ stored_column column (last_place left) left)

-- what is stored of a column is what is left of it, with all its entries
abbrev pub IsStoredOf : Complex → ℕ → ℕ → List Entry → Option StoredColumn → Type 0
IsStoredOf complex k column left found = IsStoredAs column left (option_map (full_column complex k) found)

-- what is stored of a column out of degree number k, or of an empty one where its place is dead: what is left of it as the stored columns
-- are taken away
pub record IsLeftOfColumn (p : ℕ) (complex : Complex) (k : ℕ) (is_alive : Bool) (column : ℕ) (stored : List StoredColumn)
    (found : Option StoredColumn) : Type 0 where
  pub line : List Entry
  pub left : List Entry
  pub live : IsLiveColumn p complex (complex.low +ℤ pos k) is_alive column line
  pub reduced : IsReducedLine p (place_count complex (complex.low +ℤ pos k +ℤ pos 1)) (full_columns complex k stored) line left
  pub kept : IsStoredOf complex k column left found

-- the matrix out of degree i has the columns of another complex, but those of dead places are 0
pub record HasColumns (complex whole : Complex) (i : ℤ) (alive : List Bool) : Type 0 where
  pub count : place_count complex i ≡ length alive
  pub entries : (row column : ℕ) → entry_of complex i row column
      ≡ (if slice_index_or alive column false then entry_of whole i row column else 0)

-- the first columns of degree i, as many as count, are reduced: so in each complex that has the columns whose places are alive
abbrev pub AreFirstReduced : ℕ → Complex → ℤ → List Bool → ℕ → List StoredColumn → Type 0
AreFirstReduced p whole i alive count stored =
    (complex : Complex) → IsComplex p complex → HasColumns complex whole i alive
    → AreReduced p complex i count (reduced_columns stored) (replay p complex (stored_pivots i stored))

-- the places of each degree, with those of a stored column's pivot dead, where its degree has number k
abbrev pub with_pair : ℕ → List (List Bool) → StoredColumn → List (List Bool)
with_pair k alive stored = with_dead (k + 1) stored.row (with_dead k stored.column alive)

-- and with those of all their pivots dead
abbrev pub with_pairs : ℕ → List (List Bool) → List StoredColumn → List (List Bool)
with_pairs k alive stored = fold (with_pair k) alive stored

-- which places of each degree are alive
abbrev pub alive_in : Complex → List (List Bool)
alive_in complex = map (λ degree. degree.alive) complex.degrees

-- the pivots of each degree
abbrev pub pivots_in : List (Vec Pivot) → List (List Pivot)
pivots_in degrees = map (λ degree. degree.items) degrees

-- one list of the pivots of all degrees, which are given from the least on: those of the greatest degree come first
abbrev pub from_greatest : List (List Pivot) → List Pivot
from_greatest [] = []
from_greatest (degree ∷ greater) = from_greatest greater ++ degree

-- a history reduces the degrees of a complex before number k: it has their pivots, those of the greatest degree first, and is legal; these
-- places are alive after it; there is no entry out of these degrees, and the entries out of all others are as they were, but 0 in columns
-- that are dead
pub record IsReducedTo (p : ℕ) (complex : Complex) (k : ℕ) (places : List (List Bool)) (pivots : List Pivot) : Type 0 where
  pub degrees : List (List ReducedColumn)
  pub count : length degrees ≡ k
  pub up : AreReducedUp p complex complex.low degrees (replay p complex pivots)
  pub listed : pivots ≡ pivots_from_greatest complex.low degrees
  pub legal : IsLegal p complex pivots
  pub alive : places ≡ alive_in (replay p complex pivots)
  pub below : HaveNoEntryBelow (replay p complex pivots) (complex.low +ℤ pos k)
  pub above : (j : ℤ) → (complex.low +ℤ pos k) ≤ℤ j → (row column : ℕ) → entry_of (replay p complex pivots) j row column
      ≡ (if is_place_alive (replay p complex pivots) j column then entry_of complex j row column else 0)
