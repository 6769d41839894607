-- A column reduction under way: degree by degree from the least up, and of each degree column by column, pivots enter a history in the
-- order in which they are found.
use Rattle.std.specs.Prelude.{◌≡◌, ◌≢◌, ℕ, ◌+◌, ◌/◌, ◌<◌, vec_capacity, ◌≤◌, ◌^◌, ℤ, pos, ◌+ℤ◌, ◌<ℤ◌, List, [], ◌∷◌, ◌++◌, length, Bool, false, slice_index_or, IfNone, IfSome, if◌then◌else◌}
use Rattle.std.specs.List.{AllByRecursion}
use Rattle.kh_types.specs.Complex.{Complex, IsComplex, Pivot, entry_of, pivot_at}
use Rattle.kh_types.specs.History.{IsLegal, replay}
use Rattle.sparse_block.specs.Complexes.{place_count}
use Rattle.sparse_block.specs.Entries.{AreEntries, value_at}
use Rattle.sparse_block.specs.Inside.{lists_in}
use Rattle.sparse_block.specs.Complexes.{live_places}
use Rattle.column_reduction.specs.Reductions.{AreReduced, IsLeftOf, column_numbers}
use Rattle.column_reduction.specs.declared.stored_column.StoredColumns.{StoredColumns}
use Rattle.column_reduction.specs.declared.under_way.ColumnReduction.{ColumnReduction}
use Rattle.column_reduction.specs.declared.under_way.FoundColumn.{FoundColumn}
use Rattle.column_reduction.specs.StoredColumns.{AreStored, IsFree, IsReducedTo, StoredColumn, alive_in, full_column, full_columns, last_place, reduced_columns, stored_pivots}

-- the degree of the last pivot, and another one where there is none
abbrev pub last_degree : ℤ → List Pivot → ℤ
last_degree none [] = none
last_degree none (pivot ∷ later) = last_degree pivot.degree later

-- a history is that of a reduction which has come to a column of degree number k: the degrees before it are reduced, so far that nothing
-- is left of them, and of degree number k so many columns, which leave the stored ones
pub record IsUnderWay (p : ℕ) (complex : Complex) (k count : ℕ) (stored : List StoredColumn) (history : List Pivot) : Type 0 where
  pub earlier : List Pivot
  pub from_greatest : List Pivot
  pub marks : List (List Bool)
  pub so_far : IsReducedTo p complex k marks from_greatest
  pub legal : IsLegal p complex earlier
  pub smaller : AllByRecursion (λ pivot. pivot.degree <ℤ (complex.low +ℤ pos k)) earlier
  pub same : replay p complex earlier ≡ replay p complex from_greatest
  pub listed : history ≡ earlier ++ stored_pivots (complex.low +ℤ pos k) stored
  pub own : AreReduced p (replay p complex earlier) (complex.low +ℤ pos k) count (reduced_columns stored) (replay p complex history)

-- a stored column is the next one of degree number k that has a pivot: the history's reduction has come to it, leaving nothing of the
-- columns before; the stored columns leave something of it, which ends where none of them does, and these are its entries
pub record IsNext (p : ℕ) (complex : Complex) (history : List Pivot) (k : ℕ) (line : StoredColumn) : Type 0 where
  pub stored : List StoredColumn
  pub under_way : IsUnderWay p complex k line.column stored history
  pub entries : AreEntries p (place_count complex (complex.low +ℤ pos (k + 1))) line.entries
  pub some : line.entries ≢ []
  pub left : IsLeftOf p (reduced_columns stored)
      (column_numbers (replay p complex under_way.earlier) (complex.low +ℤ pos k) line.column) (value_at line.entries)
  pub free : IsFree (reduced_columns stored) (value_at line.entries)
  pub within : line.column < place_count complex (complex.low +ℤ pos k)
  pub row_is : line.row ≡ last_place line.entries

-- a table of no reduced column, with so many rows, none of which is owned, and room for a column each
pub record IsFreshTable (rows columns : ℕ) (table : StoredColumns) : Type 0 where
  pub empty : table.columns.items ≡ []
  pub none : (p : ℕ) → AreStored p [] table.owners.items
  pub height : length table.owners.items ≡ rows
  pub room_is : columns ≤ vec_capacity table.columns

-- a found column is the next one of its degree: with a fresh table exactly where its degree is not that of the last pivot
pub record IsFound (p : ℕ) (complex : Complex) (history : List Pivot) (found : FoundColumn) : Type 0 where
  pub degree_is : found.degree ≡ complex.low +ℤ pos found.number
  pub next : IsNext p complex history found.number (full_column complex found.number found.line)
  pub here : IfNone found.fresh (found.degree ≡ last_degree complex.low history)
  pub above : IfSome found.fresh (λ table. (found.degree ≢ last_degree complex.low history)
      × IsFreshTable (place_count complex (complex.low +ℤ pos (found.number + 1))) (place_count complex (complex.low +ℤ pos found.number))
      table)

-- the pivot of a found column
abbrev pub pivot_of : FoundColumn → Pivot
pivot_of found = pivot_at found.degree found.line.column found.line.row

-- the pivots that a reduction has found, the first at place 0
abbrev pub history_of : ColumnReduction → List Pivot
history_of held = held.history.items

-- what is in memory is a reduction of a complex, whose degrees have fewer than 2^32 places each: it stands at the degree of the last
-- pivot, knows which places are alive, has the stored columns of this degree and their owners, room for each column of it, and room for
-- half as many pivots more as places are alive
pub record IsReductionOf (p : ℕ) (complex : Complex) (held : ColumnReduction) : Type 0 where
  pub is : IsComplex p complex
  pub few : (k : ℕ) → place_count complex (complex.low +ℤ pos k) < 2 ^ 32
  pub way : IsUnderWay p complex held.number held.next (full_columns complex held.number held.stored.columns.items)
      held.history.items
  pub here : (complex.low +ℤ pos held.number) ≡ last_degree complex.low held.history.items
  pub number : held.number < length held.alive.items
  pub alive_is : lists_in held.alive.items ≡ alive_in (replay p complex held.history.items)
  pub are_stored : AreStored p (full_columns complex held.number held.stored.columns.items) held.stored.owners.items
  pub height : length held.stored.owners.items ≡ place_count complex (complex.low +ℤ pos (held.number + 1))
  pub count : length held.stored.columns.items ≤ held.next
  pub within : held.next ≤ place_count complex (complex.low +ℤ pos held.number)
  pub room_is : place_count complex (complex.low +ℤ pos held.number) ≤ vec_capacity held.stored.columns
  pub spare : length held.history.items + live_places (replay p complex held.history.items) / 2 ≤ vec_capacity held.history

-- the numbers of a column of the matrix out of degree i, and 0 where its place is dead
abbrev pub live_numbers : Complex → ℤ → List Bool → ℕ → ℕ → ℕ
live_numbers complex i alive column row = if slice_index_or alive column false then entry_of complex i row column else 0

-- of the columns of degree i from one on, before another, the stored columns leave nothing
abbrev pub LeaveNone : ℕ → Complex → ℤ → List Bool → List StoredColumn → ℕ → ℕ → Type 0
LeaveNone p complex i alive stored from end =
    (column : ℕ) → from ≤ column → column < end → IsLeftOf p (reduced_columns stored) (live_numbers complex i alive column) (value_at [])

-- none has an entry of the columns of all degrees from one number on, before another
abbrev pub AllLeaveNone : ℕ → Complex → List (List Bool) → ℕ → ℕ → Type 0
AllLeaveNone p complex alive from end =
    (k : ℕ) → from ≤ k → k < end
    → LeaveNone p complex (complex.low +ℤ pos k) (slice_index_or alive k []) [] 0 (length (slice_index_or alive k []))

-- the first column of degree i, from one on, of which the stored columns leave something, and what they leave
pub record IsFirstLeft (p : ℕ) (complex : Complex) (i : ℤ) (alive : List Bool) (stored : List StoredColumn) (from : ℕ)
    (line : StoredColumn) : Type 0 where
  pub later : from ≤ line.column
  pub within : line.column < length alive
  pub before : LeaveNone p complex i alive stored from line.column
  pub entries : AreEntries p (place_count complex (i +ℤ pos 1)) line.entries
  pub some : line.entries ≢ []
  pub left : IsLeftOf p (reduced_columns stored) (live_numbers complex i alive line.column) (value_at line.entries)
  pub free : IsFree (reduced_columns stored) (value_at line.entries)
  pub row_is : line.row ≡ last_place line.entries

-- a found column is the first that has an entry of the degrees from one number on, with a fresh table
pub record IsFirstFrom (p : ℕ) (complex : Complex) (alive : List (List Bool)) (from : ℕ) (found : FoundColumn) : Type 0 where
  pub degree_is : found.degree ≡ complex.low +ℤ pos found.number
  pub later : from ≤ found.number
  pub before : AllLeaveNone p complex alive from found.number
  pub first : IsFirstLeft p complex (complex.low +ℤ pos found.number) (slice_index_or alive found.number []) [] 0
      (full_column complex found.number found.line)
  pub table : IfSome found.fresh
      (IsFreshTable (length (slice_index_or alive (found.number + 1) [])) (length (slice_index_or alive found.number [])))
  pub none : IfNone found.fresh ⊥
