-- Stored columns with all their entries: those of the matrix's own columns where none are kept.
use Rattle.std.proofs.Common.{◌≡◌, ◌≢◌, ℕ, ◌<◌, ◌∙◌, inl, inr, List, [], ◌∷◌, ◌++◌, ℤ, pos, ◌+ℤ◌, length, map, get_or, set, refl, ap, sym, subst, subst₂, arith, Bool, true, false, Some, None}
use Rattle.std.specs.Prelude.{Option, IfNone, IfSome, slice_index_or}
use Rattle.std.specs.List.{last_or, range_with_len}
use Rattle.std.proofs.lemmas.Bool.{cases_lt}
use Rattle.std.proofs.Math.ListN.{get_or-map}
use Rattle.std.proofs.lemmas.List.{get_or_default, get_or_past, length-map, length-set, map_push}
use Rattle.std.proofs.lemmas.List.FromFn.{get_or-map-range_with_len, length-map-range_with_len}
use Rattle.kh_types.specs.Complex.{Complex, IsComplex, Pivot, entry_of}
use Rattle.prime_field.specs.Residues.{IsField}
use Rattle.sparse_block.specs.Complexes.{place_count}
use Rattle.sparse_block.specs.Entries.{Entry, AreEntries, entries_of, value_at}
use Rattle.sparse_block.specs.Opening.{IsColumnOf, IsLastEntry}
use Rattle.sparse_block.proofs.ClearedLists.{no-entries}
use Rattle.sparse_block.proofs.ComplexMatrices.{entry-stands}
use Rattle.sparse_block.proofs.EntryLemmas.{entries_of-line_of, map-range_agree, value_at-entries_of}
use Rattle.sparse_block.proofs.LastLemmas.{last-at}
use Rattle.column_reduction.specs.Reductions.{EndsAt, IsLeftOf}
use Rattle.column_reduction.specs.StoredColumns.{AreStored, IsFree, IsStoredOf, IsLeftOfColumn, IsReducedLine, IsStoredAs, StoredColumn, entries_less, full_column, full_columns, kept_or, last_place, no_column, own_entries, owner_in, reduced_columns, stored_column, stored_pivots, stored_with, with_pair, with_pairs}
use Rattle.column_reduction.proofs.LastEntries.{last_place-within}
use Rattle.column_reduction.proofs.Lefts.{left-whole}
use Rattle.column_reduction.proofs.Taking.{IsNextLine, next-line, stored-at}
use Rattle.column_reduction.specs.declared.stored_column.StoredColumns.{StoredColumns}
use Rattle.column_reduction.proofs.Storing.{owner-at, owner-ends, owner-free, stored-pushed, stored_with-some}

-- the entries of a column are its own
pub own-entries : (p : ℕ) (complex : Complex) (i : ℤ) (column : ℕ) (entries : List Entry) → IsColumnOf p complex i column entries
    → own_entries complex i column ≡ entries
own-entries p complex i column entries are =
    let size = place_count complex (i +ℤ pos 1) in
    ap entries_of (map-range_agree (λ row. entry_of complex i row column) (value_at entries) 0 size (λ row later. sym (are.values row)))
    ∙ entries_of-line_of p size entries are.are

pub length-none : (entries : List Entry) → length entries ≡ 0 → entries ≡ []
length-none [] none = refl
length-none (first ∷ rest) none = absurd (omega (arith, none))

-- where entries are kept, they are all
pub kept-some : (entries own : List Entry) → entries ≢ [] → kept_or entries own ≡ entries
kept-some [] own some = absurd (some refl)
kept-some (first ∷ rest) own some = refl

pub full-own : (p : ℕ) (complex : Complex) (k : ℕ) (line : StoredColumn) (entries : List Entry) → line.entries ≡ []
    → IsColumnOf p complex (complex.low +ℤ pos k) line.column entries → (full_column complex k line).entries ≡ entries
full-own p complex k line entries none are =
    let i = complex.low +ℤ pos k in
    ap (λ (kept : List Entry). kept_or kept (own_entries complex i line.column)) none ∙ own-entries p complex i line.column entries are

pub full-kept : (complex : Complex) (k : ℕ) (line : StoredColumn) → line.entries ≢ [] → (full_column complex k line).entries ≡ line.entries
full-kept complex k line some = kept-some line.entries (own_entries complex (complex.low +ℤ pos k) line.column) some

-- a column that ends has a place
pub column-within : (p : ℕ) (complex : Complex) (k row : ℕ) (line : StoredColumn) → IsComplex p complex → line.entries ≡ []
    → EndsAt row (value_at (full_column complex k line).entries) → line.column < place_count complex (complex.low +ℤ pos k)
column-within p complex k row line is kept ends =
    let i = complex.low +ℤ pos k in
    let own : kept_or line.entries (own_entries complex i line.column) ≡ own_entries complex i line.column =
    ap (λ (entries : List Entry). kept_or entries (own_entries complex i line.column)) kept in
    let f : ℕ → ℕ = λ row. entry_of complex i row line.column in
    let size = place_count complex (i +ℤ pos 1) in
    let other : value_at (own_entries complex i line.column) row ≢ 0 =
    subst (λ (entries : List Entry). value_at entries row ≢ 0) own ends.other in
    let number = value_at-entries_of (map f (range_with_len 0 size)) row in
    elim (cases_lt row size) [
      | inl there ↦
          let here : f row ≢ 0 = λ zero. other (number ∙ get_or-map-range_with_len f 0 size row row 0 there (omega arith) ∙ zero) in
          (entry-stands p complex i row line.column is here).column_place
      | inr past ↦
          absurd (other (number
          ∙ get_or_past (map f (range_with_len 0 size)) row 0 (omega (arith, past, length-map-range_with_len f 0 size))))
    ]

-- the pivots of stored columns, and the places that they leave, are known without their entries
pub pivots-full : (complex : Complex) (k : ℕ) (i : ℤ) (stored : List StoredColumn)
    → stored_pivots i (full_columns complex k stored) ≡ stored_pivots i stored
pivots-full complex k i [] = refl
pivots-full complex k i (line ∷ lines) =
    ap (λ (pivots : List Pivot). record { degree = i; column = line.column; row = line.row } ∷ pivots) (pivots-full complex k i lines)

pub pairs-full : (complex : Complex) (k j : ℕ) (alive : List (List Bool)) (stored : List StoredColumn)
    → with_pairs j alive (full_columns complex k stored) ≡ with_pairs j alive stored
pairs-full complex k j alive [] = refl
pairs-full complex k j alive (line ∷ lines) = pairs-full complex k j (with_pair j alive line) lines

-- the last of some entries stands at their last place
pub last-place : (entries : List Entry) (last : Entry) → Some last ≡ last_or None entries → (entries ≢ []) × (last.place ≡ last_place entries)
last-place [] last is = absurd (clash last is)
  where
    clash : (last : Entry) → Some last ≡ None → ⊥
    clash last is = cc
last-place (first ∷ rest) last is =
    let found : Some last ≡ Some (get_or (first ∷ rest) (length rest) first) =
    is ∙ last-at None (first ∷ rest) (length rest) first (omega arith) in
    let same : last ≡ get_or (first ∷ rest) (length rest) first = cc in
    (λ empty. some first rest empty, ap (λ (entry : Entry). entry.place) same)
  where
    some : (first : Entry) (rest : List Entry) → first ∷ rest ≡ [] → ⊥
    some first rest empty = cc

last-empty : (entries : List Entry) → None ≡ last_or None entries → entries ≡ []
last-empty [] is = refl
last-empty (first ∷ rest) is = absurd (clash _ (is ∙ last-at None (first ∷ rest) (length rest) first (omega arith)))
  where
    clash : (last : Entry) → None ≡ Some last → ⊥
    clash last is = cc

-- what is left of a column
module _ (p : ℕ) (complex : Complex) (k column : ℕ) (stored : List StoredColumn) (field : IsField p) where
  abbrev i : ℤ
  i = complex.low +ℤ pos k

  abbrev size : ℕ
  size = place_count complex (i +ℤ pos 1)

  abbrev full : List StoredColumn
  full = full_columns complex k stored

  -- a line that ends where no stored column does is all that is left of it
  left-all : (line : List Entry) → AreEntries p size line → IsFree (reduced_columns full) (value_at line)
      → IsReducedLine p size full line line
  left-all line are free =
      record { left = left-whole p (reduced_columns full) (value_at line); entries = are; free = free }

  -- nothing is left of a dead place
  pub left-dead : IsLeftOfColumn p complex k false column stored None
  left-dead =
      record {
        line = [];
        left = [];
        live = record { are = (no-entries p size); values = λ row. refl };
        reduced = left-all [] (no-entries p size) (λ row ends. absurd (ends.other refl));
        kept = refl;
      }

  -- nor of a column that has no entry
  pub left-empty : IsLastEntry p complex (complex.low +ℤ pos k) column None → IsLeftOfColumn p complex k true column stored None
  left-empty last =
      let none = last-empty last.entries last.is in
      record {
        line = last.entries;
        left = last.entries;
        live = record { are = last.are.are; values = last.are.values };
        reduced = left-all last.entries last.are.are
            (λ row ends. absurd (ends.other (ap (λ (entries : List Entry). value_at entries row) none)));
        kept = none;
      }

  -- all is left where no stored column ends at its last entry
  pub left-own : (last : Entry) (owners : List (Option ℕ)) → AreStored p (full_columns complex k stored) owners
      → length owners ≡ place_count complex (complex.low +ℤ pos k +ℤ pos 1)
      → IsLastEntry p complex (complex.low +ℤ pos k) column (Some last) → slice_index_or owners last.place None ≡ None
      → IsLeftOfColumn p complex k true column stored (Some (stored_column column last.place []))
  left-own last owners are height is free =
      let entries = is.entries in
      let (some, at) = last-place entries last is.is in
      let owner : owner_in owners entries ≡ None =
      owner-at owners entries some ∙ ap (λ (row : ℕ). slice_index_or owners row None) (sym at) ∙ free in
      record {
        line = entries;
        left = entries;
        live = record { are = is.are.are; values = is.are.values };
        reduced = left-all entries is.are.are
            (owner-free p p full owners are entries (subst (λ (n : ℕ). AreEntries p n entries) (sym height) is.are.are) owner);
        kept = (
          some,
          ap (stored_column column last.place) (own-entries p complex i column entries is.are)
              ∙ ap (λ (row : ℕ). stored_column column row entries) at,
        );
      }

  -- and of a column that was reduced, what is stored with its entries
  pub left-reduced : (line left : List Entry) (found : Option StoredColumn) → IsColumnOf p complex (complex.low +ℤ pos k) column line
      → IsReducedLine p (place_count complex (complex.low +ℤ pos k +ℤ pos 1)) (full_columns complex k stored) line left
      → IsStoredAs column left found → IsLeftOfColumn p complex k true column stored found
  left-reduced line left found are reduced kept =
      record {
        line = line;
        left = left;
        live = record { are = are.are; values = are.values };
        reduced = reduced;
        kept = kept-as found kept;
      }
    where
      kept-as : (found : Option StoredColumn) → IsStoredAs column left found → IsStoredOf complex k column left found
      kept-as None none = none
      kept-as (Some found) (some, is) = (
        some,
        ap (full_column complex k) is ∙ ap (stored_column column (last_place left)) (kept-some left (own_entries complex i column) some),
      )

-- it ends within the rows
pub row-within : (p : ℕ) (complex : Complex) (k column size : ℕ) (is_alive : Bool) (stored : List StoredColumn) (found : Option StoredColumn)
    → size ≡ place_count complex (complex.low +ℤ pos k +ℤ pos 1) → IsLeftOfColumn p complex k is_alive column stored found
    → IfSome found (λ line. line.row < size)
row-within p complex k column size is_alive stored None height left = tt
row-within p complex k column size is_alive stored (Some line) height left =
    let (some, is) = left.kept in
    omega (
      arith,
      height,
      ap (λ (line : StoredColumn). line.row) is,
      last_place-within p (place_count complex (complex.low +ℤ pos k +ℤ pos 1)) left.left left.reduced.entries some,
    )

-- what is stored then
pub record IsStoredThen (p : ℕ) (complex : Complex) (k column : ℕ) (stored after : List StoredColumn) (owners owners_after : List (Option ℕ))
    (left : List Entry) : Type 0 where
  pub columns : full_columns complex k after ≡ stored_with (full_columns complex k stored) column left
  pub are : AreStored p (full_columns complex k after) owners_after
  pub rows : length owners_after ≡ length owners

module _ (p : ℕ) (complex : Complex) (k column : ℕ) (field : IsField p) (before now : StoredColumns)
    (are : AreStored p (full_columns complex k before.columns.items) before.owners.items) where
  abbrev stored : List StoredColumn
  stored = before.columns.items

  abbrev whole : List StoredColumn
  whole = full_columns complex k stored

  pub stored-then : (found : Option StoredColumn) (is_alive : Bool)
      → length before.owners.items ≡ place_count complex (complex.low +ℤ pos k +ℤ pos 1)
      → (left : IsLeftOfColumn p complex k is_alive column before.columns.items found)
      → IfNone found (now ≡ before) → IfSome found (λ line. now.columns.items ≡ before.columns.items ++ line ∷ [])
      → IfSome found (λ line. now.owners.items ≡ set before.owners.items line.row (Some (length before.columns.items)))
      → IsStoredThen p complex k column before.columns.items now.columns.items before.owners.items now.owners.items left.left
  stored-then None is_alive height left same columns owners =
      subst (λ (now : StoredColumns).
      IsStoredThen p complex k column before.columns.items now.columns.items before.owners.items now.owners.items left.left) (sym same)
      (record { columns = ap (stored_with whole column) (sym left.kept); are = are; rows = refl })
  stored-then (Some line) is_alive height left same columns owners =
      let (some, is) = left.kept in
      let row : line.row ≡ last_place left.left = ap (λ (line : StoredColumn). line.row) is in
      let longer : full_columns complex k now.columns.items ≡ whole ++ stored_column column (last_place left.left) left.left ∷ [] =
      ap (full_columns complex k) columns ∙ map_push (full_column complex k) stored line
      ∙ ap (λ (line : StoredColumn). whole ++ line ∷ []) is in
      let owned : set before.owners.items (last_place left.left) (Some (length whole)) ≡ now.owners.items =
      ap (λ (count : ℕ). set before.owners.items (last_place left.left) (Some count)) (length-map stored (full_column complex k))
      ∙ ap (λ (row : ℕ). set before.owners.items row (Some (length stored))) (sym row) ∙ sym owners in
      record {
        columns = longer ∙ sym (stored_with-some column whole left.left some);
        are = subst₂ (AreStored p) (sym longer) owned
            (stored-pushed p column (last_place left.left) whole before.owners.items left.left field are
            (subst (λ (n : ℕ). AreEntries p n left.left) (sym height) left.reduced.entries) some refl left.reduced.free);
        rows = ap length owners ∙ length-set before.owners.items line.row (Some (length stored));
      }

-- the stored column that ends where a line ends, by its number
pub record IsOwner (p : ℕ) (complex : Complex) (k : ℕ) (stored : List StoredColumn) (owners : List (Option ℕ)) (line : List Entry)
    (number : ℕ) (owner : StoredColumn) : Type 0 where
  pub within : number < length stored
  pub is : full_column complex k owner ≡ get_or (full_columns complex k stored) number no_column
  pub ends : EndsAt owner.row (value_at line)
  pub own_entries_are : AreEntries p (length owners) (full_column complex k owner).entries
  pub own_ends : EndsAt owner.row (value_at (full_column complex k owner).entries)

pub owner-number : (p : ℕ) (complex : Complex) (k : ℕ) (stored : List StoredColumn) (owners : List (Option ℕ)) (line : List Entry)
    (number : ℕ) → AreStored p (full_columns complex k stored) owners → AreEntries p (length owners) line
    → owner_in owners line ≡ Some number → number < length stored
owner-number p complex k stored owners line number are entries is =
    let own = owner-ends p p (full_columns complex k stored) owners are line number entries is in
    omega (arith, own.0, length-map stored (full_column complex k))

pub owner-is : (p : ℕ) (complex : Complex) (k : ℕ) (stored : List StoredColumn) (owners : List (Option ℕ)) (line : List Entry)
    (number : ℕ) (owner : StoredColumn) → AreStored p (full_columns complex k stored) owners → AreEntries p (length owners) line
    → owner_in owners line ≡ Some number → owner ≡ get_or stored number owner → IsOwner p complex k stored owners line number owner
owner-is p complex k stored owners line number owner are entries is owner_is =
    let all = full_columns complex k stored in
    let own = owner-ends p p all owners are line number entries is in
    let within : number < length stored = omega (arith, own.0, length-map stored (full_column complex k)) in
    let same : full_column complex k owner ≡ get_or all number no_column =
    ap (full_column complex k) owner_is ∙ sym (get_or-map (full_column complex k) stored number owner)
    ∙ get_or_default all number (full_column complex k owner) no_column own.0 in
    let row : owner.row ≡ (get_or all number no_column).row = ap (λ (line : StoredColumn). line.row) same in
    record {
      within = within;
      is = same;
      ends = subst (λ (row : ℕ). EndsAt row (value_at line)) (sym row) own.1;
      own_entries_are = subst (λ (line : StoredColumn). AreEntries p (length owners) line.entries) (sym same)
          (are.entries number no_column own.0);
      own_ends = subst (λ (line : StoredColumn). EndsAt line.row (value_at line.entries)) (sym same) (stored-at p number all owners are own.0);
    }

-- and what is left as its multiple is taken away
pub owner-next : (p : ℕ) (complex : Complex) (k : ℕ) (stored : List StoredColumn) (owners : List (Option ℕ)) (whole before after : List Entry)
    (number : ℕ) (owner : StoredColumn) → IsField p → AreStored p (full_columns complex k stored) owners
    → IsOwner p complex k stored owners before number owner → AreEntries p (length owners) before
    → IsLeftOf p (reduced_columns (full_columns complex k stored)) (value_at whole) (value_at before)
    → (AreEntries p (length owners) (full_column complex k owner).entries
    → after ≡ entries_less p (length owners) owner.row before (full_column complex k owner).entries)
    → IsNextLine p (length owners) (full_columns complex k stored) whole before after
owner-next p complex k stored owners whole before after number owner field are own entries left less =
    let all = full_columns complex k stored in
    let row : owner.row ≡ (get_or all number no_column).row = ap (λ (line : StoredColumn). line.row) own.is in
    next-line p number all owners (full_column complex k owner) whole before after field are
    (omega (arith, own.within, length-map stored (full_column complex k))) own.is
    (subst (λ (row : ℕ). EndsAt row (value_at before)) row own.ends) entries left less
