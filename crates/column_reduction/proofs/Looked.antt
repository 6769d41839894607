-- What a look at a reduction under way comes to. Of the columns of the degree under way, from the next one on, the stored columns leave
-- nothing, up to one of which they leave something; or they leave nothing of any, and the degree is done. Then the columns of the next
-- degree, of which none is stored yet, either have no entry, or one has.
use Rattle.std.proofs.Common.{◌≡◌, ◌≢◌, ℕ, zero, suc, ◌+◌, ◌<◌, ◌≤◌, ◌∙◌, inl, inr, List, [], ℤ, pos, ◌+ℤ◌, ◌-ℤ◌, length, refl, ap, sym, subst, arith, Bool, true, false, Result, Ok, Err}
use Rattle.std.specs.Prelude.{slice_index_or, if◌then◌else◌, Option, Some, None, IfOk, IfSome, IfNone}
use Rattle.std.specs.Option.{is_some}
use Rattle.std.proofs.lemmas.Bool.Decides.{eqb_tells}
use Rattle.std.proofs.lemmas.Int.{ints}
use Rattle.std.proofs.lemmas.List.{length-map}
use Rattle.kh_types.specs.Complex.{Complex, IsComplex, Pivot, degree_of, entry_of, is_zero}
use Rattle.kh_types.specs.History.{replay}
use Rattle.prime_field.specs.Residues.{IsField}
use Rattle.sparse_block.specs.Complexes.{place_count}
use Rattle.sparse_block.specs.Entries.{Entry, AreEntries, value_at}
use Rattle.sparse_block.proofs.HistoryLemmas.{degrees-replay, low-replay, places-replay}
use Rattle.column_reduction.specs.Reductions.{IsLeftOf, column_numbers}
use Rattle.column_reduction.specs.StoredColumns.{IsLeftOfColumn, IsLiveColumn, IsReducedLine, StoredColumn, alive_in, full_column, full_columns, last_place, reduced_columns}
use Rattle.column_reduction.specs.declared.stored_column.StoredColumns.{StoredColumns}
use Rattle.column_reduction.specs.declared.under_way.FoundColumn.{FoundColumn}
use Rattle.column_reduction.specs.UnderWay.{AllLeaveNone, IsFirstFrom, IsFirstLeft, IsFound, IsFreshTable, IsNext, IsUnderWay, LeaveNone, last_degree, live_numbers}
use Rattle.column_reduction.proofs.FirstReduced.{left-agree}
use Rattle.column_reduction.proofs.Marks.{alive-number}
use Rattle.column_reduction.proofs.Onward.{distance_to, entry-later, is-pivot, under_way-all, under_way-column, under_way-degree}
use Rattle.column_reduction.proofs.ZeroLeft.{entry-from}

-- one column more
pub leave-more : (p k from : ℕ) (complex : Complex) (i : ℤ) (alive : List Bool) (stored : List StoredColumn)
    → LeaveNone p complex i alive stored from k → IsLeftOf p (reduced_columns stored) (live_numbers complex i alive k) (value_at [])
    → LeaveNone p complex i alive stored from (k + 1)
leave-more p k from complex i alive stored before here column later within =
    elim (eqb_tells column k) [
      | inl same ↦
          subst (λ (n : ℕ). IsLeftOf p (reduced_columns stored) (live_numbers complex i alive n) (value_at [])) (sym same.1) here
      | inr other ↦ before column later (omega (arith, within, other.1))
    ]

pub leave-fewer : (p k end from : ℕ) (complex : Complex) (i : ℤ) (alive : List Bool) (stored : List StoredColumn)
    → LeaveNone p complex i alive stored from k → end ≤ k → LeaveNone p complex i alive stored from end
leave-fewer p k end from complex i alive stored before less column later within = before column later (omega (arith, within, less))

-- what the stored columns leave of a column that was put in place
pub left-number : (p size column : ℕ) (complex : Complex) (i : ℤ) (alive : List Bool) (stored : List StoredColumn) (line left : List Entry)
    → IsLiveColumn p complex i (slice_index_or alive column false) column line → IsReducedLine p size stored line left
    → IsLeftOf p (reduced_columns stored) (live_numbers complex i alive column) (value_at left)
left-number p size column complex i alive stored line left live reduced =
    left-agree p (reduced_columns stored) (value_at line) (live_numbers complex i alive column) (value_at left)
    (λ row. sym (live.values row)) reduced.left

-- where they leave nothing
pub leave-left : (p k column from : ℕ) (complex : Complex) (alive : List Bool) (stored : List StoredColumn) (found : Option StoredColumn)
    → IsLeftOfColumn p complex k (slice_index_or alive column false) column stored found → is_some found ≡ false
    → LeaveNone p complex (complex.low +ℤ pos k) alive (full_columns complex k stored) from column
    → LeaveNone p complex (complex.low +ℤ pos k) alive (full_columns complex k stored) from (column + 1)
leave-left p k column from complex alive stored (Some found) left none before = absurd (clash none)
  where
    clash : true ≡ false → ⊥
    clash is = cc
leave-left p k column from complex alive stored None left none before =
    let i = complex.low +ℤ pos k in
    let full = full_columns complex k stored in
    leave-more p column from complex i alive full before
    (subst (λ (left : List Entry). IsLeftOf p (reduced_columns full) (live_numbers complex i alive column) (value_at left)) left.kept
    (left-number p (place_count complex (i +ℤ pos 1)) column complex i alive full left.line left.left left.live left.reduced))

-- where they leave something
pub first-left : (p k column from : ℕ) (complex : Complex) (alive : List Bool) (stored : List StoredColumn) (found : Option StoredColumn)
    → IsLeftOfColumn p complex k (slice_index_or alive column false) column stored found
    → LeaveNone p complex (complex.low +ℤ pos k) alive (full_columns complex k stored) from column → from ≤ column → column < length alive
    → IfSome found (λ line.
    IsFirstLeft p complex (complex.low +ℤ pos k) alive (full_columns complex k stored) from (full_column complex k line))
first-left p k column from complex alive stored None left before later within = tt
first-left p k column from complex alive stored (Some line) left before later within =
    let i = complex.low +ℤ pos k in
    let full = full_columns complex k stored in
    subst (IsFirstLeft p complex i alive full from) (sym left.kept.1)
    (record {
      later = later;
      within = within;
      before = before;
      entries = left.reduced.entries;
      some = left.kept.0;
      left = left-number p (place_count complex (i +ℤ pos 1)) column complex i alive full left.line left.left left.live left.reduced;
      free = left.reduced.free;
      row_is = refl;
    })

-- and one degree more
pub all-more : (p k from : ℕ) (complex : Complex) (alive : List (List Bool)) → AllLeaveNone p complex alive from k
    → LeaveNone p complex (complex.low +ℤ pos k) (slice_index_or alive k []) [] 0 (length (slice_index_or alive k []))
    → AllLeaveNone p complex alive from (k + 1)
all-more p k from complex alive before here j later within =
    elim (eqb_tells j k) [
      | inl same ↦
          subst (λ (n : ℕ). LeaveNone p complex (complex.low +ℤ pos n) (slice_index_or alive n []) [] 0 (length (slice_index_or alive n [])))
          (sym same.1) here
      | inr other ↦ before j later (omega (arith, within, other.1))
    ]

module _ (p : ℕ) (complex : Complex) (field : IsField p) (is : IsComplex p complex) (alive : List (List Bool)) (history : List Pivot)
    (is_alive : alive ≡ alive_in (replay p complex history)) where
  abbrev own_alive : ℕ → List Bool
  own_alive k = slice_index_or alive k []

  -- the number at a row of a column that is not reduced yet
  number-here : (k count : ℕ) (stored : List StoredColumn) (way : IsUnderWay p complex k count stored history) (column row : ℕ)
      → count ≤ column
      → entry_of (replay p complex way.earlier) (complex.low +ℤ pos k) row column
      ≡ live_numbers complex (complex.low +ℤ pos k) (slice_index_or alive k []) column row
  number-here k count stored way column row later =
      let i = complex.low +ℤ pos k in
      let made = replay p complex history in
      let same : made.low +ℤ pos k ≡ i = ap (λ (l : ℤ). l +ℤ pos k) (low-replay p complex history) in
      let marks : own_alive k ≡ (degree_of made i).alive =
      ap (λ (places : List (List Bool)). slice_index_or places k []) is_alive ∙ alive-number made k
      ∙ ap (λ (j : ℤ). (degree_of made j).alive) same in
      entry-later p complex field is k count stored history way row column later
      ∙ ap (λ (marks : List Bool). if slice_index_or marks column false then entry_of complex i row column else 0) (sym marks)

  -- what is left of such a column
  left-live : (k count : ℕ) (stored : List StoredColumn) (way : IsUnderWay p complex k count stored history) (column : ℕ)
      (values : ℕ → ℕ) → count ≤ column
      → IsLeftOf p (reduced_columns stored) (live_numbers complex (complex.low +ℤ pos k) (slice_index_or alive k []) column) values
      → IsLeftOf p (reduced_columns stored) (column_numbers (replay p complex way.earlier) (complex.low +ℤ pos k) column) values
  left-live k count stored way column values later left =
      left-agree p (reduced_columns stored) (live_numbers complex (complex.low +ℤ pos k) (own_alive k) column)
      (column_numbers (replay p complex way.earlier) (complex.low +ℤ pos k) column) values
      (λ row. number-here k count stored way column row later) left

  -- columns of which nothing is left
  way-columns : (k count distance : ℕ) (stored : List StoredColumn) → IsUnderWay p complex k count stored history
      → LeaveNone p complex (complex.low +ℤ pos k) (slice_index_or alive k []) stored count (count + distance)
      → IsUnderWay p complex k (count + distance) stored history
  way-columns k count zero stored way none =
      let same : count ≡ count + 0 = omega arith in subst (λ (n : ℕ). IsUnderWay p complex k n stored history) same way
  way-columns k count (suc distance) stored way none =
      let next : IsUnderWay p complex k (count + 1) stored history =
      under_way-column p complex field is k count stored history way (value_at [])
      (left-live k count stored way count (value_at []) (omega arith) (none count (omega arith) (omega arith))) (λ row. refl) in
      let same : count + 1 + distance ≡ count + suc distance = omega arith in
      subst (λ (n : ℕ). IsUnderWay p complex k n stored history) same
      (way-columns k (count + 1) distance stored next (λ column later within. none column (omega (arith, later)) (omega (arith, within))))

  way-to : (k count end : ℕ) (stored : List StoredColumn) → IsUnderWay p complex k count stored history → count ≤ end
      → LeaveNone p complex (complex.low +ℤ pos k) (slice_index_or alive k []) stored count end
      → IsUnderWay p complex k end stored history
  way-to k count end stored way less none =
      let (distance, same) = distance_to count end less in
      subst (λ (n : ℕ). IsUnderWay p complex k n stored history) same
      (way-columns k count distance stored way (λ column later within. none column later (omega (arith, within, same))))

  -- how many places a degree has
  pub alive-count : (k : ℕ) → length (slice_index_or alive k []) ≡ place_count complex (complex.low +ℤ pos k)
  alive-count k =
      let made = replay p complex history in
      ap (λ (places : List (List Bool)). length (slice_index_or places k [])) is_alive ∙ ap length (alive-number made k)
      ∙ ap (λ (l : ℤ). length (degree_of made (l +ℤ pos k)).alive) (low-replay p complex history)
      ∙ places-replay p complex history (complex.low +ℤ pos k)

  pub degrees-count : length alive ≡ length complex.degrees
  degrees-count =
      ap length is_alive ∙ length-map (replay p complex history).degrees (λ degree. degree.alive) ∙ degrees-replay p complex history

  -- to the end of a degree
  way-next : (k count : ℕ) (stored : List StoredColumn) → IsUnderWay p complex k count stored history
      → count ≤ length (slice_index_or alive k [])
      → LeaveNone p complex (complex.low +ℤ pos k) (slice_index_or alive k []) stored count (length (slice_index_or alive k []))
      → IsUnderWay p complex (k + 1) 0 [] history
  way-next k count stored way less none =
      under_way-degree p complex field is k (length (own_alive k)) stored history
      (way-to k count (length (own_alive k)) stored way less none) (alive-count k)

  way-degrees : (from distance : ℕ) → IsUnderWay p complex from 0 [] history → AllLeaveNone p complex alive from (from + distance)
      → IsUnderWay p complex (from + distance) 0 [] history
  way-degrees from zero way none =
      let same : from ≡ from + 0 = omega arith in subst (λ (k : ℕ). IsUnderWay p complex k 0 [] history) same way
  way-degrees from (suc distance) way none =
      let next = way-next from 0 [] way (omega arith) (none from (omega arith) (omega arith)) in
      let same : from + 1 + distance ≡ from + suc distance = omega arith in
      subst (λ (k : ℕ). IsUnderWay p complex k 0 [] history) same
      (way-degrees (from + 1) distance next (λ k later within. none k (omega (arith, later)) (omega (arith, within))))

  way-up_to : (from k : ℕ) → IsUnderWay p complex from 0 [] history → from ≤ k → AllLeaveNone p complex alive from k
      → IsUnderWay p complex k 0 [] history
  way-up_to from k way less none =
      let (distance, same) = distance_to from k less in
      subst (λ (n : ℕ). IsUnderWay p complex n 0 [] history) same
      (way-degrees from distance way (λ j later within. none j later (omega (arith, within, same))))

  -- a column of which something is left is the next one
  next-found : (k count : ℕ) (stored : List StoredColumn) (line : StoredColumn) → IsUnderWay p complex k count stored history
      → IsFirstLeft p complex (complex.low +ℤ pos k) (slice_index_or alive k []) stored count line
      → IsNext p complex history k line
  next-found k count stored line way first =
      let here = way-to k count line.column stored way first.later first.before in
      let next : complex.low +ℤ pos k +ℤ pos 1 ≡ complex.low +ℤ pos (k + 1) = omega (arith, ints) in
      record {
        stored = stored;
        under_way = here;
        entries = subst (λ (i : ℤ). AreEntries p (place_count complex i) line.entries) next first.entries;
        some = first.some;
        left = left-live k line.column stored here line.column (value_at line.entries) (omega arith) first.left;
        free = first.free;
        within = omega (arith, first.within, alive-count k);
        row_is = first.row_is;
      }

  module _ (k next : ℕ) (stored : List StoredColumn) (way : IsUnderWay p complex k next stored history)
      (here : (complex.low +ℤ pos k) ≡ last_degree complex.low history) (within : next ≤ place_count complex (complex.low +ℤ pos k)) where
    -- a column of the degree under way
    pub found-here : (found : FoundColumn)
        → IsFirstLeft p complex (complex.low +ℤ pos k) (slice_index_or alive k []) stored next (full_column complex k found.line)
        → found.number ≡ k → found.degree ≡ complex.low +ℤ pos k → found.fresh ≡ None → IsFound p complex history found
    found-here found first number degree fresh =
        record {
          degree_is = degree ∙ ap (λ (n : ℕ). complex.low +ℤ pos n) (sym number);
          next = subst (λ (n : ℕ). IsNext p complex history n (full_column complex n found.line)) (sym number)
              (next-found k next stored (full_column complex k found.line) way first);
          here = subst (λ (fresh : Option StoredColumns). IfNone fresh (found.degree ≡ last_degree complex.low history)) (sym fresh)
              (degree ∙ here);
          above = subst (λ (fresh : Option StoredColumns). IfSome fresh (λ table. (found.degree ≢ last_degree complex.low history)
              × IsFreshTable (place_count complex (complex.low +ℤ pos (found.number + 1)))
              (place_count complex (complex.low +ℤ pos found.number)) table)) (sym fresh) tt;
        }

    module _ (none : LeaveNone p complex (complex.low +ℤ pos k) (slice_index_or alive k []) stored next (length (slice_index_or alive k []))) where
      way-above : IsUnderWay p complex (k + 1) 0 [] history
      way-above = way-next k next stored way (omega (arith, within, alive-count k)) none

      -- and one of a degree above it
      pub found-above : (found : FoundColumn) → IsFirstFrom p complex alive (k + 1) found → IsFound p complex history found
      found-above found made =
          let m = found.number in
          let found_way = way-up_to (k + 1) m way-above made.later made.before in
          let other : found.degree ≢ last_degree complex.low history =
          λ same.
          let equal : found.degree ≡ complex.low +ℤ pos k = same ∙ sym here in
          omega (arith, ints, equal, made.degree_is, made.later) in
          record {
            degree_is = made.degree_is;
            next = next-found m 0 [] (full_column complex m found.line) found_way made.first;
            here = parts.0;
            above = parts.1 other;
          }
        where
          tables : (fresh : Option StoredColumns) (rows columns more_rows more_columns : ℕ) → rows ≡ more_rows → columns ≡ more_columns
              → IfNone fresh ⊥ → IfSome fresh (IsFreshTable rows columns)
              → IfNone fresh (found.degree ≡ last_degree complex.low history)
              × (found.degree ≢ last_degree complex.low history → IfSome fresh (λ table. (found.degree ≢ last_degree complex.low history)
              × IsFreshTable more_rows more_columns table))
          tables None rows columns more_rows more_columns same_rows same_columns none some = (absurd none, λ other. tt)
          tables (Some table) rows columns more_rows more_columns same_rows same_columns none some = (
            tt,
            λ other. (
              other,
              subst (λ (rows : ℕ). IsFreshTable rows more_columns table) same_rows
                  (subst (λ (columns : ℕ). IsFreshTable rows columns table) same_columns some),
            ),
          )

          parts : IfNone found.fresh (found.degree ≡ last_degree complex.low history)
              × (found.degree ≢ last_degree complex.low history → IfSome found.fresh (λ table. (found.degree ≢ last_degree complex.low history)
              × IsFreshTable (place_count complex (complex.low +ℤ pos (found.number + 1)))
              (place_count complex (complex.low +ℤ pos found.number)) table))
          parts =
              tables found.fresh (length (slice_index_or alive (found.number + 1) [])) (length (slice_index_or alive found.number []))
              (place_count complex (complex.low +ℤ pos (found.number + 1))) (place_count complex (complex.low +ℤ pos found.number))
              (alive-count (found.number + 1)) (alive-count found.number) made.none made.table

      -- or nothing is left
      pub found-none : k < length alive → AllLeaveNone p complex alive (k + 1) (length alive) → is_zero (replay p complex history) ≡ true
      found-none below above =
          under_way-all p complex field is (length alive) 0 [] history
          (way-up_to (k + 1) (length alive) way-above (omega (arith, below)) above) degrees-count refl

-- where a column is found, not all is zero
pub found-open : (p : ℕ) (complex : Complex) (history : List Pivot) (found : FoundColumn) → IsField p → IsComplex p complex
    → IsFound p complex history found → is_zero (replay p complex history) ≡ true → ⊥
found-open p complex history found field is is_found none =
    let next = is_found.next in
    let line = full_column complex found.number found.line in
    let pivot = is-pivot p complex field is found.number line.column next.stored history next.under_way line next in
    pivot (entry-from (replay p complex history) none ((complex.low +ℤ pos found.number) -ℤ (replay p complex history).low)
    (last_place line.entries) line.column)

-- what is said of each result that is found, or of finding none
pub some-map : {E : Type 0} (P Q : FoundColumn → Type 0) → ((found : FoundColumn) → P found → Q found)
    → (result : Result (Option FoundColumn) E) → IfOk result (λ seen. IfSome seen P) → IfOk result (λ seen. IfSome seen Q)
some-map P Q map (Ok (Some found)) holds = map found holds
some-map P Q map (Ok None) holds = tt
some-map P Q map (Err stop) holds = tt

pub none-map : {E : Type 0} (A B : Type 0) → (A → B) → (result : Result (Option FoundColumn) E) → IfOk result (λ seen. IfNone seen A)
    → IfOk result (λ seen. IfNone seen B)
none-map A B map (Ok (Some found)) holds = tt
none-map A B map (Ok None) holds = map holds
none-map A B map (Err stop) holds = tt
