-- A column reduction under way: how it goes on. Nothing is left of a column, and the next one is at hand. A degree has no further column,
-- and the next degree is. And a pivot is found: what the stored columns of a patch leave of its column, those of the block leave too, and
-- of the columns between nothing is left.
use Rattle.std.proofs.Common.{◌≡◌, ℕ, zero, suc, ◌+◌, ◌<◌, ◌≤◌, ◌∙◌, inl, inr, List, [], ◌∷◌, ◌++◌, ℤ, pos, ◌+ℤ◌, ◌<ℤ◌, length, refl, ap, sym, subst, arith, Bool, true, false, append-nil, append_assoc}
use Rattle.std.specs.Prelude.{if◌then◌else◌, nat_eq}
use Rattle.std.specs.List.{AllByRecursion}
use Rattle.std.proofs.lemmas.Bool.{or_from}
use Rattle.std.proofs.lemmas.Bool.Decides.{eqb_tells, leb_tells}
use Rattle.std.proofs.lemmas.Int.{ints}
use Rattle.std.proofs.lemmas.List.{map_push}
use Rattle.kh_types.specs.Complex.{Complex, IsComplex, IsPivot, Pivot, entry_of, is_zero, pivot_at}
use Rattle.kh_types.specs.History.{IsLegal, replay}
use Rattle.kh_types.proofs.Lists.{AllByRecursion-append}
use Rattle.prime_field.specs.Residues.{IsField}
use Rattle.sparse_block.specs.Complexes.{place_count}
use Rattle.sparse_block.specs.Entries.{value_at}
use Rattle.column_reduction.specs.Reductions.{AreReduced, ComeInOrder, EndsAt, IsLeftOf, IsReducedDegree, IsZeroLine, ReducedColumn, column_numbers, is_pivot_column, is_place_alive, pivots_of}
use Rattle.column_reduction.specs.StoredColumns.{IsFree, StoredColumn, alive_in, last_place, reduced_column, reduced_columns, stored_column, stored_pivots, with_pairs}
use Rattle.column_reduction.specs.UnderWay.{IsNext, IsUnderWay}
use Rattle.column_reduction.proofs.Determined.{LeaveToo}
use Rattle.column_reduction.proofs.Ends.{less-own, zero-reduced}
use Rattle.sparse_block.proofs.HistoryLemmas.{complex-replay, legal-append, places-replay, replay-push}
use Rattle.column_reduction.proofs.SameHistories.{leave-same, parts-once, rows-same}
use Rattle.column_reduction.proofs.LastEntries.{ends-last_place}
use Rattle.column_reduction.proofs.Others.{own-alive}
use Rattle.column_reduction.proofs.ReducedTo.{reduced_to-all, reduced_to-first, reduced_to-same, reduced_to-step}
use Rattle.column_reduction.proofs.Steps.{pivot-last, pivots-push, reduced-none, reduced-nothing, reduced-pivot}
use Rattle.column_reduction.proofs.Stored.{stored-below}

-- how far a number is from a smaller one
pub distance_to : (a b : ℕ) → a ≤ b → (distance : ℕ) × (a + distance ≡ b)
distance_to zero b within = (b, omega arith)
distance_to (suc a) zero within = absurd (omega (arith, within))
distance_to (suc a) (suc b) within =
    let rest = distance_to a b (omega (arith, within)) in (rest.0, omega (arith, rest.1))

-- columns from one on that are 0 now: nothing is left of them
caught-up : (p : ℕ) (before after : Complex) (i : ℤ) (count distance : ℕ) (reduced : List ReducedColumn) → IsField p → IsComplex p before
    → AreReduced p before i count reduced after
    → ((column : ℕ) → column < count + distance → IsZeroLine (column_numbers after i column))
    → AreReduced p before i (count + distance) reduced after
caught-up p before after i count zero reduced field is so_far zeros =
    let same : count ≡ count + 0 = omega arith in
    subst (λ (n : ℕ). AreReduced p before i n reduced after) same so_far
caught-up p before after i count (suc distance) reduced field is so_far zeros =
    let same : count + distance + 1 ≡ count + suc distance = omega arith in
    let rest =
    caught-up p before after i count distance reduced field is so_far (λ column within. zeros column (omega (arith, within))) in
    subst (λ (n : ℕ). AreReduced p before i n reduced after) same
    (reduced-nothing p before after i (count + distance) reduced field is rest (column_numbers after i (count + distance))
    (rest.left (count + distance) (omega arith)) (zeros (count + distance) (omega arith)))

-- no stored column comes from one that is not reduced yet
pub pivot_column-later : (p : ℕ) (before : Complex) (i : ℤ) (count least column : ℕ) (earlier lines : List ReducedColumn)
    → ComeInOrder p before i count least earlier lines → count ≤ column → is_pivot_column column lines ≡ false
pivot_column-later p before i count least column earlier [] order later = refl
pivot_column-later p before i count least column earlier (line ∷ lines) order later =
    let below : line.column + 1 ≤ count = within (line.column + 1) (earlier ++ line ∷ []) lines order.3 in
    let here : nat_eq column line.column ≡ false =
    elim (eqb_tells column line.column) [
      | inl same ↦ absurd (omega (arith, below, later, same.1))
      | inr other ↦ other.0
    ] in
    or_from (nat_eq column line.column) (is_pivot_column column lines) here
    (pivot_column-later p before i count (line.column + 1) column (earlier ++ line ∷ []) lines order.3 later)
  where
    within : (least : ℕ) (earlier lines : List ReducedColumn) → ComeInOrder p before i count least earlier lines → least ≤ count
    within least earlier [] order = order.0
    within least earlier (line ∷ lines) order =
        omega (arith, order.0, within (line.column + 1) (earlier ++ line ∷ []) lines order.3)

-- at first
pub under_way-first : (p : ℕ) (complex : Complex) → IsComplex p complex → IsUnderWay p complex 0 0 [] []
under_way-first p complex is =
    record {
      earlier = [];
      from_greatest = [];
      marks = alive_in complex;
      so_far = reduced_to-first p complex (alive_in complex) is refl;
      legal = tt;
      smaller = tt;
      same = refl;
      listed = refl;
      own = reduced-none p complex (complex.low +ℤ pos 0);
    }

module _ (p : ℕ) (complex : Complex) (field : IsField p) (is : IsComplex p complex) where
  module _ (k count : ℕ) (stored : List StoredColumn) (history : List Pivot) (way : IsUnderWay p complex k count stored history) where
    abbrev i : ℤ
    i = complex.low +ℤ pos k

    abbrev before : Complex
    before = replay p complex way.earlier

    is_before : IsComplex p before
    is_before = complex-replay p complex way.earlier field is way.legal

    -- what the history leaves comes of what the smaller degrees leave
    replayed-own : replay p complex history ≡ replay p (replay p complex way.earlier) (stored_pivots (complex.low +ℤ pos k) stored)
    replayed-own = way.own.replayed

    pub under_way-legal : IsLegal p complex history
    under_way-legal =
        subst (IsLegal p complex) (sym way.listed) (legal-append p complex way.earlier (stored_pivots i stored) way.legal way.own.legal)

    -- an entry of a column that is not reduced yet
    pub entry-later : (row column : ℕ) → count ≤ column
        → entry_of (replay p complex way.earlier) (complex.low +ℤ pos k) row column
        ≡ (if is_place_alive (replay p complex history) (complex.low +ℤ pos k) column then entry_of complex (complex.low +ℤ pos k) row column else 0)
    entry-later row column later =
        let x = entry_of complex i row column in
        let was : entry_of before i row column ≡ (if is_place_alive before i column then x else 0) =
        subst (λ (made : Complex). entry_of made i row column ≡ (if is_place_alive made i column then x else 0)) (sym way.same)
        (way.so_far.above i (omega (arith, ints)) row column) in
        let alive : is_place_alive (replay p complex history) i column ≡ is_place_alive before i column =
        own-alive p before (replay p complex history) i count (reduced_columns stored) way.own column
        ∙ ap (λ (b : Bool). if b then false else is_place_alive before i column)
        (pivot_column-later p before i count 0 column [] (reduced_columns stored) way.own.order later) in
        was ∙ ap (λ (b : Bool). if b then x else 0) (sym alive)

    -- nothing is left of the next column
    pub under_way-column : (values : ℕ → ℕ)
        → IsLeftOf p (reduced_columns stored) (column_numbers (replay p complex way.earlier) (complex.low +ℤ pos k) count) values
        → IsZeroLine values → IsUnderWay p complex k (count + 1) stored history
    under_way-column values left zeros =
        record {
          earlier = way.earlier;
          from_greatest = way.from_greatest;
          marks = way.marks;
          so_far = way.so_far;
          legal = way.legal;
          smaller = way.smaller;
          same = way.same;
          listed = way.listed;
          own = reduced-nothing p before (replay p complex history) i count (reduced_columns stored) field is_before way.own values left zeros;
        }

    -- no column is left
    pub under_way-degree : count ≡ place_count complex (complex.low +ℤ pos k) → IsUnderWay p complex (k + 1) 0 [] history
    under_way-degree all =
        let now = replay p complex way.from_greatest in
        let after = replay p now (stored_pivots i stored) in
        let same_after : replay p complex history ≡ after =
        replayed-own ∙ ap (λ (made : Complex). replay p made (stored_pivots i stored)) way.same in
        let whole : count ≡ place_count now i = all ∙ sym (places-replay p complex way.from_greatest i) in
        let step : IsReducedDegree p now i (reduced_columns stored) after =
        subst (λ (n : ℕ). AreReduced p now i n (reduced_columns stored) after) whole
        (subst (λ (made : Complex). AreReduced p now i count (reduced_columns stored) made) same_after
        (subst (λ (made : Complex). AreReduced p made i count (reduced_columns stored) (replay p complex history)) way.same way.own)) in
        let next = reduced_to-step p k complex i way.marks way.from_greatest stored field is way.so_far refl step in
        let same_next = reduced_to-same p k complex i way.marks way.from_greatest stored field is way.so_far refl step in
        record {
          earlier = history;
          from_greatest = stored_pivots i stored ++ way.from_greatest;
          marks = with_pairs k way.marks stored;
          so_far = next;
          legal = under_way-legal;
          smaller = subst (AllByRecursion (λ pivot. pivot.degree <ℤ (complex.low +ℤ pos (k + 1)))) (sym way.listed)
              (AllByRecursion-append (λ pivot. pivot.degree <ℤ (complex.low +ℤ pos (k + 1))) way.earlier (stored_pivots i stored)
              (less-more way.earlier way.smaller) (less-own (complex.low +ℤ pos (k + 1)) i (reduced_columns stored) (omega (arith, ints))));
          same = same_after ∙ sym same_next;
          listed = sym (append-nil history);
          own = reduced-none p (replay p complex history) (complex.low +ℤ pos (k + 1));
        }
      where
        less-more : (pivots : List Pivot) → AllByRecursion (λ pivot. pivot.degree <ℤ (complex.low +ℤ pos k)) pivots
            → AllByRecursion (λ pivot. pivot.degree <ℤ (complex.low +ℤ pos (k + 1))) pivots
        less-more [] less = tt
        less-more (pivot ∷ pivots) less = (omega (arith, ints, less.0), less-more pivots less.1)

    -- no degree is left
    pub under_way-all : k ≡ length complex.degrees → stored ≡ [] → is_zero (replay p complex history) ≡ true
    under_way-all all none =
        let same : replay p complex history ≡ replay p complex way.from_greatest =
        replayed-own
        ∙ ap (λ (stored : List StoredColumn). replay p (replay p complex way.earlier) (stored_pivots i stored)) none ∙ way.same in
        subst (λ (made : Complex). is_zero made ≡ true) (sym same)
        (zero-reduced p complex (replay p complex way.from_greatest) way.from_greatest field is
        (reduced_to-all p k complex way.marks way.from_greatest all way.so_far))

    -- a pivot is found, in this degree or, where none is stored, in one above it
    module _ (line : StoredColumn) (next : IsNext p complex history k line) where
      abbrev last : ℕ
      last = last_place line.entries

      theirs : (next.under_way.earlier ≡ way.earlier)
          × (pivots_of (complex.low +ℤ pos k) (reduced_columns next.stored) ≡ pivots_of (complex.low +ℤ pos k) (reduced_columns stored))
      theirs =
          parts-once i next.under_way.earlier way.earlier (reduced_columns next.stored) (reduced_columns stored) next.under_way.smaller
          way.smaller (sym next.under_way.listed ∙ way.listed)

      there : AreReduced p (replay p complex way.earlier) (complex.low +ℤ pos k) line.column (reduced_columns next.stored) (replay p complex history)
      there =
          subst (λ (pivots : List Pivot). AreReduced p (replay p complex pivots) i line.column (reduced_columns next.stored) (replay p complex history))
          theirs.0 next.under_way.own

      too : LeaveToo p (reduced_columns next.stored) (reduced_columns stored)
      too =
          leave-same p before i field line.column count 0 0 [] [] (reduced_columns next.stored) (reduced_columns stored) there.columns
          way.own.columns (λ whole left is_left. is_left) (λ whole left is_left. is_left) there.order way.own.order theirs.1

      left_here : IsLeftOf p (reduced_columns stored) (column_numbers (replay p complex way.earlier) (complex.low +ℤ pos k) line.column) (value_at line.entries)
      left_here =
          too (column_numbers before i line.column) (value_at line.entries)
          (subst (λ (pivots : List Pivot).
          IsLeftOf p (reduced_columns next.stored) (column_numbers (replay p complex pivots) i line.column) (value_at line.entries)) theirs.0 next.left)

      ends_here : EndsAt (last_place line.entries) (value_at line.entries)
      ends_here = ends-last_place p (place_count complex (complex.low +ℤ pos (k + 1))) line.entries next.entries next.some

      pub free-here : IsFree (reduced_columns stored) (value_at line.entries)
      free-here row ends =
          sym (rows-same p before i field row (reduced_columns next.stored) (reduced_columns stored) theirs.1) ∙ next.free row ends

      pub is-pivot : IsPivot (replay p complex history) (pivot_at (complex.low +ℤ pos k) line.column (last_place line.entries))
      is-pivot =
          pivot-last p (replay p complex next.under_way.earlier) (replay p complex history) i line.column (reduced_columns next.stored) field
          (complex-replay p complex next.under_way.earlier field is next.under_way.legal) next.under_way.own (value_at line.entries) next.left
          last (stored-below p _ line.entries field next.entries) ends_here (next.free last ends_here)

      -- it stands at no column that is reduced
      pub not_earlier : count ≤ line.column
      not_earlier =
          elim (leb_tells count line.column) [
            | inl later ↦ later.1
            | inr earlier ↦ absurd (is-pivot (way.own.cleared line.column (omega (arith, earlier.1)) last))
          ]

      up_to : AreReduced p (replay p complex way.earlier) (complex.low +ℤ pos k) line.column (reduced_columns stored) (replay p complex history)
      up_to =
          let (distance, same) = distance_to count line.column not_earlier in
          subst (λ (n : ℕ). AreReduced p before i n (reduced_columns stored) (replay p complex history)) same
          (caught-up p before (replay p complex history) i count distance (reduced_columns stored) field is_before way.own
          (λ at within. next.under_way.own.cleared at (omega (arith, within, same))))

      pub under_way-pivot : IsUnderWay p complex k (line.column + 1) (stored ++ stored_column line.column (last_place line.entries) line.entries ∷ [])
          (history ++ pivot_at (complex.low +ℤ pos k) line.column (last_place line.entries) ∷ [])
      under_way-pivot =
          let pivot = pivot_at i line.column last in
          let new = stored_column line.column last line.entries in
          let pushed : reduced_columns (stored ++ new ∷ []) ≡ reduced_columns stored ++ reduced_column new ∷ [] =
          map_push reduced_column stored new in
          let step =
          reduced-pivot p before (replay p complex history) i line.column (reduced_columns stored) field is_before up_to (value_at line.entries) left_here
          last (stored-below p _ line.entries field next.entries) ends_here (free-here last ends_here) in
          let pivots : stored_pivots i (stored ++ new ∷ []) ≡ stored_pivots i stored ++ pivot ∷ [] =
          ap (pivots_of i) pushed ∙ pivots-push i (reduced_columns stored) line.column last (value_at line.entries) in
          record {
            earlier = way.earlier;
            from_greatest = way.from_greatest;
            marks = way.marks;
            so_far = way.so_far;
            legal = way.legal;
            smaller = way.smaller;
            same = way.same;
            listed = ap (λ (xs : List Pivot). xs ++ pivot ∷ []) way.listed
                ∙ append_assoc way.earlier (stored_pivots i stored) (pivot ∷ [])
                ∙ ap (λ (xs : List Pivot). way.earlier ++ xs) (sym pivots);
            own = subst (λ (lines : List ReducedColumn).
                AreReduced p (replay p complex way.earlier) (complex.low +ℤ pos k) (line.column + 1) lines
                (replay p complex (history ++ pivot_at (complex.low +ℤ pos k) line.column (last_place line.entries) ∷ []))) (sym pushed)
                (subst (λ (made : Complex).
                AreReduced p (replay p complex way.earlier) (complex.low +ℤ pos k) (line.column + 1) (reduced_columns stored ++ reduced_column new ∷ []) made)
                (sym (replay-push p complex history pivot)) step);
          }
