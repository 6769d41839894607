-- A found column is taken: what a reduction under way keeps in memory then.
use Rattle.std.proofs.Common.{◌≡◌, ◌≢◌, ℕ, ◌+◌, ◌/◌, ◌<◌, ◌≤◌, ◌^◌, ◌∙◌, inl, inr, List, [], ◌∷◌, ◌++◌, ℤ, pos, ◌+ℤ◌, length, set, ap, sym, subst, subst₂, arith, Bool, false, vec_capacity}
use Rattle.std.specs.Prelude.{slice_index_or, Option, Some, None, IfNone, IfSome}
use Rattle.std.specs.Global.{Vec}
use Rattle.std.proofs.lemmas.Bool.Decides.{leb_tells}
use Rattle.std.proofs.lemmas.Int.{ints}
use Rattle.std.proofs.lemmas.List.{get_or_past, length-append, length-map, length-set, map_push}
use Rattle.kh_types.specs.Complex.{Complex, IsPivot, Pivot, pivot_at}
use Rattle.kh_types.specs.History.{replay}
use Rattle.prime_field.specs.Residues.{IsField}
use Rattle.sparse_block.specs.Clearing.{with_dead}
use Rattle.sparse_block.specs.Complexes.{place_count}
use Rattle.sparse_block.specs.Entries.{AreEntries}
use Rattle.sparse_block.specs.Inside.{lists_in}
use Rattle.sparse_block.proofs.HistoryLemmas.{complex-replay, low-replay, replay-push}
use Rattle.sparse_block.specs.Complexes.{live_places}
use Rattle.sparse_block.proofs.LivePlaces.{live_places-cancel}
use Rattle.column_reduction.specs.StoredColumns.{AreStored, StoredColumn, alive_in, full_column, full_columns, last_place, stored_column}
use Rattle.column_reduction.specs.declared.stored_column.StoredColumns.{StoredColumns}
use Rattle.column_reduction.specs.declared.under_way.ColumnReduction.{ColumnReduction}
use Rattle.column_reduction.specs.declared.under_way.FoundColumn.{FoundColumn}
use Rattle.column_reduction.specs.UnderWay.{IsFound, IsFreshTable, IsNext, IsReductionOf, IsUnderWay, last_degree, pivot_of}
use Rattle.column_reduction.proofs.LastEntries.{last_place-within}
use Rattle.column_reduction.proofs.Looked.{alive-count}
use Rattle.column_reduction.proofs.Marks.{alive_in-pairs}
use Rattle.column_reduction.proofs.Onward.{free-here, is-pivot, not_earlier, under_way-legal, under_way-pivot}
use Rattle.column_reduction.proofs.SameHistories.{fresh-none, last_degree-push}
use Rattle.column_reduction.proofs.Storing.{stored-pushed}

-- a reduction whose history this is, and a table, are ready to take a column of degree number k
pub record IsReady (p : ℕ) (complex : Complex) (k : ℕ) (table : StoredColumns) (history : List Pivot) (line : StoredColumn) : Type 0 where
  pub count : ℕ
  pub way : IsUnderWay p complex k count (full_columns complex k table.columns.items) history
  pub are_stored : AreStored p (full_columns complex k table.columns.items) table.owners.items
  pub height : length table.owners.items ≡ place_count complex (complex.low +ℤ pos (k + 1))
  pub room_is : place_count complex (complex.low +ℤ pos k) ≤ vec_capacity table.columns
  pub few : length table.columns.items ≤ line.column
  pub next : IsNext p complex history k (full_column complex k line)

-- half of what is two less is one less
half-less : (x y : ℕ) → x + 2 ≡ y → x / 2 + 1 ≡ y / 2
half-less x y less = omega (arith, less)

module _ (p : ℕ) (complex : Complex) (field : IsField p) (held : ColumnReduction) (of : IsReductionOf p complex held)
    (found : FoundColumn) (is_found : IsFound p complex held.history.items found) where
  abbrev history : List Pivot
  history = held.history.items

  abbrev line : StoredColumn
  line = found.line

  abbrev k : ℕ
  k = found.number

  abbrev i : ℤ
  i = complex.low +ℤ pos k

  ready-here : found.degree ≡ last_degree complex.low held.history.items
      → IsReady p complex found.number held.stored held.history.items found.line
  ready-here same_degree =
      let same : held.number ≡ k = omega (arith, ints, of.here, is_found.degree_is, same_degree) in
      let way : IsUnderWay p complex k held.next (full_columns complex k held.stored.columns.items) history =
      subst (λ (k : ℕ). IsUnderWay p complex k held.next (full_columns complex k held.stored.columns.items) history) same of.way in
      let later : held.next ≤ line.column =
      not_earlier p complex field of.is k held.next (full_columns complex k held.stored.columns.items) history way (full_column complex k line)
      is_found.next in
      record {
        count = held.next;
        way = way;
        are_stored = subst (λ (k : ℕ). AreStored p (full_columns complex k held.stored.columns.items) held.stored.owners.items) same
            of.are_stored;
        height = subst (λ (k : ℕ). length held.stored.owners.items ≡ place_count complex (complex.low +ℤ pos (k + 1))) same of.height;
        room_is = subst (λ (k : ℕ). place_count complex (complex.low +ℤ pos k) ≤ vec_capacity held.stored.columns) same of.room_is;
        few = omega (arith, of.count, later);
        next = is_found.next;
      }

  ready-fresh : (table : StoredColumns) → found.degree ≢ last_degree complex.low held.history.items
      → IsFreshTable (place_count complex (complex.low +ℤ pos (found.number + 1))) (place_count complex (complex.low +ℤ pos found.number)) table
      → IsReady p complex found.number table held.history.items found.line
  ready-fresh table other fresh =
      let next = is_found.next in
      let none : next.stored ≡ [] =
      fresh-none complex.low i next.under_way.earlier next.stored
      (λ same. other (is_found.degree_is ∙ same ∙ ap (last_degree complex.low) (sym next.under_way.listed))) in
      let nothing : full_columns complex k table.columns.items ≡ [] = ap (full_columns complex k) fresh.empty in
      let empty : next.stored ≡ full_columns complex k table.columns.items = none ∙ sym nothing in
      record {
        count = line.column;
        way = subst (λ (stored : List StoredColumn). IsUnderWay p complex k line.column stored history) empty next.under_way;
        are_stored = subst (λ (stored : List StoredColumn). AreStored p stored table.owners.items) (sym nothing) (fresh.none p);
        height = fresh.height;
        room_is = fresh.room_is;
        few = omega (arith, ap length fresh.empty);
        next = next;
      }

  -- with the table that the found column brings along, or with the old one
  pub ready : (table : StoredColumns) → IfNone found.fresh (table ≡ held.stored) → IfSome found.fresh (λ fresh. table ≡ fresh)
      → IsReady p complex found.number table held.history.items found.line
  ready table = at found.fresh is_found.here is_found.above
    where
      at : (fresh : Option StoredColumns) → IfNone fresh (found.degree ≡ last_degree complex.low held.history.items)
          → IfSome fresh (λ table. (found.degree ≢ last_degree complex.low held.history.items)
          × IsFreshTable (place_count complex (complex.low +ℤ pos (found.number + 1)))
          (place_count complex (complex.low +ℤ pos found.number)) table)
          → IfNone fresh (table ≡ held.stored) → IfSome fresh (λ fresh. table ≡ fresh)
          → IsReady p complex found.number table held.history.items found.line
      at None here above none some =
          subst (λ (table : StoredColumns). IsReady p complex k table history line) (sym none) (ready-here here)
      at (Some fresh) here above none some =
          subst (λ (table : StoredColumns). IsReady p complex k table history line) (sym some) (ready-fresh fresh above.0 above.1)

  -- its degree is one of the complex
  pub number-within : found.number < length held.alive.items
  number-within =
      let size : length (lists_in held.alive.items) ≡ length held.alive.items = length-map held.alive.items (λ (degree : Vec Bool). degree.items) in
      let count = alive-count p complex field of.is (lists_in held.alive.items) history of.alive_is k in
      elim (leb_tells (length (lists_in held.alive.items)) k) [
        | inl past ↦
            absurd (omega (arith, is_found.next.within, count, ap length (get_or_past (lists_in held.alive.items) k [] past.1)))
        | inr below ↦ omega (arith, below.1, size)
      ]

  pub kept_pivot : pivot_of found ≡ pivot_at (complex.low +ℤ pos found.number) found.line.column found.line.row
  kept_pivot = ap (λ (i : ℤ). pivot_at i line.column line.row) is_found.degree_is

  -- and is an entry other than 0 of what the history leaves
  pub is_pivot-found : IsPivot (replay p complex held.history.items) (pivot_of found)
  is_pivot-found =
      let next = is_found.next in
      subst (IsPivot (replay p complex history)) (sym kept_pivot)
      (subst (λ (row : ℕ). IsPivot (replay p complex history) (pivot_at i line.column row)) (sym next.row_is)
      (is-pivot p complex field of.is k line.column next.stored history next.under_way (full_column complex k line) next))

  falls : live_places (replay p complex (held.history.items ++ pivot_of found ∷ [])) + 2 ≡ live_places (replay p complex held.history.items)
  falls =
      ap (λ (made : Complex). live_places made + 2) (replay-push p complex history (pivot_of found))
      ∙ live_places-cancel p (replay p complex history) (pivot_of found)
      (complex-replay p complex history field of.is
      (under_way-legal p complex field of.is held.number held.next (full_columns complex held.number held.stored.columns.items) history of.way))
      is_pivot-found

  pub room-history : length held.history.items < vec_capacity held.history
  room-history = omega (arith, of.spare, half-less _ _ falls)

  module _ (table : StoredColumns) (now : IsReady p complex found.number table held.history.items found.line) where
    -- the column that is taken, and those of the table, with all their entries
    abbrev full : StoredColumn
    full = full_column complex k line

    abbrev stored : List StoredColumn
    stored = full_columns complex k table.columns.items

    row_entries : AreEntries p (length table.owners.items) (full_column complex found.number found.line).entries
    row_entries = subst (λ (n : ℕ). AreEntries p n full.entries) (sym now.height) now.next.entries

    pub row-ready : found.line.row < length table.owners.items
    row-ready = omega (arith, now.next.row_is, last_place-within p (length table.owners.items) full.entries row_entries now.next.some)

    pub few-ready : length table.columns.items < 2 ^ 32
    few-ready = omega (arith, now.few, now.next.within, of.few k)

    pub room-ready : length table.columns.items < vec_capacity table.columns
    room-ready = omega (arith, now.few, now.next.within, now.room_is)

    -- once it is taken
    pub taken : (after : ColumnReduction) → after.number ≡ found.number → after.next ≡ found.line.column + 1
        → lists_in after.alive.items
        ≡ with_dead (found.number + 1) found.line.row (with_dead found.number found.line.column (lists_in held.alive.items))
        → after.stored.columns.items ≡ table.columns.items ++ found.line ∷ []
        → after.stored.owners.items ≡ set table.owners.items found.line.row (Some (length table.columns.items))
        → vec_capacity after.stored.columns ≡ vec_capacity table.columns
        → after.history.items ≡ held.history.items ++ pivot_of found ∷ [] → vec_capacity after.history ≡ vec_capacity held.history
        → IsReductionOf p complex after
    taken after number next alive columns owners room longer same_room =
        let pivot : pivot_of found ≡ pivot_at i line.column line.row = kept_pivot in
        let before = lists_in held.alive.items in
        let first = with_dead k line.column before in
        let is_line : stored_column line.column (last_place full.entries) full.entries ≡ full =
        ap (λ (row : ℕ). stored_column line.column row full.entries) (sym now.next.row_is) in
        let low : (replay p complex history).low ≡ complex.low = low-replay p complex history in
        let made : after.history.items ≡ history ++ pivot_at i line.column line.row ∷ [] =
        longer ∙ ap (λ (pivot : Pivot). history ++ pivot ∷ []) pivot in
        let way : IsUnderWay p complex k (line.column + 1) (stored ++ full ∷ []) after.history.items =
        subst (λ (longer : List Pivot). IsUnderWay p complex k (line.column + 1) (stored ++ full ∷ []) longer) (sym made)
        (subst (λ (row : ℕ). IsUnderWay p complex k (line.column + 1)
        (stored ++ stored_column line.column row full.entries ∷ []) (history ++ pivot_at i line.column row ∷ []))
        (sym now.next.row_is)
        (under_way-pivot p complex field of.is k now.count stored history now.way full now.next)) in
        let columns_full : full_columns complex k after.stored.columns.items ≡ stored ++ full ∷ [] =
        ap (full_columns complex k) columns ∙ map_push (full_column complex k) table.columns.items line in
        let count_full : length stored ≡ length table.columns.items = length-map table.columns.items (full_column complex k) in
        let more : length (table.columns.items ++ line ∷ []) ≡ length table.columns.items + 1 =
        length-append table.columns.items (line ∷ []) in
        let way_there : IsUnderWay p complex after.number after.next (full_columns complex after.number after.stored.columns.items)
        after.history.items =
        subst (λ (k : ℕ). IsUnderWay p complex k after.next (full_columns complex k after.stored.columns.items) after.history.items)
        (sym number)
        (subst₂ (λ (count : ℕ) (stored : List StoredColumn). IsUnderWay p complex k count stored after.history.items) (sym next)
        (sym columns_full) way) in
        let owners_there : set table.owners.items line.row (Some (length stored)) ≡ after.stored.owners.items =
        ap (λ (count : ℕ). set table.owners.items line.row (Some count)) count_full ∙ sym owners in
        let stored_here : AreStored p (full_columns complex k after.stored.columns.items) after.stored.owners.items =
        subst₂ (AreStored p) (sym columns_full) owners_there
        (subst (λ (line : StoredColumn). AreStored p (stored ++ line ∷ []) (set table.owners.items found.line.row (Some (length stored))))
        is_line
        (subst (λ (row : ℕ). AreStored p (stored ++ stored_column line.column row full.entries ∷ [])
        (set table.owners.items line.row (Some (length stored)))) now.next.row_is
        (stored-pushed p line.column line.row stored table.owners.items full.entries field now.are_stored row_entries
        now.next.some now.next.row_is
        (free-here p complex field of.is k now.count stored history now.way full now.next)))) in
        let stored_there : AreStored p (full_columns complex after.number after.stored.columns.items) after.stored.owners.items =
        subst (λ (k : ℕ). AreStored p (full_columns complex k after.stored.columns.items) after.stored.owners.items) (sym number)
        stored_here in
        record {
          is = of.is;
          few = of.few;
          way = way_there;
          here = ap (λ (n : ℕ). complex.low +ℤ pos n) number ∙ sym (last_degree-push complex.low history (pivot_at i line.column line.row))
              ∙ ap (last_degree complex.low) (sym made);
          number = omega (
            arith,
            number,
            number-within,
            length-map after.alive.items (λ (degree : Vec Bool). degree.items),
            length-map held.alive.items (λ (degree : Vec Bool). degree.items),
            ap length alive,
            length-set first (k + 1) (set (slice_index_or first (k + 1) []) line.row false),
            length-set before k (set (slice_index_or before k []) line.column false),
          );
          alive_is = alive
              ∙ ap (λ (alive : List (List Bool)). with_dead (k + 1) line.row (with_dead k line.column alive)) of.alive_is
              ∙ alive_in-pairs p k (replay p complex history) i (line ∷ []) (omega (arith, ints, low))
              ∙ ap alive_in (sym (replay-push p complex history (pivot_at i line.column line.row)))
              ∙ ap (λ (pivots : List Pivot). alive_in (replay p complex pivots)) (sym made);
          are_stored = stored_there;
          height = ap length owners ∙ length-set table.owners.items line.row (Some (length table.columns.items)) ∙ now.height
              ∙ ap (λ (n : ℕ). place_count complex (complex.low +ℤ pos (n + 1))) (sym number);
          count = omega (arith, ap length columns, more, now.few, next);
          within = omega (arith, now.next.within, next, ap (λ (n : ℕ). place_count complex (complex.low +ℤ pos n)) number);
          room_is = omega (arith, now.room_is, room, ap (λ (n : ℕ). place_count complex (complex.low +ℤ pos n)) number);
          spare = omega (
            arith,
            of.spare,
            half-less _ _ falls,
            same_room,
            ap length longer,
            length-append history (pivot_of found ∷ []),
            ap (λ (pivots : List Pivot). live_places (replay p complex pivots)) longer,
          );
        }
