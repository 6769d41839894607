-- Cancellations in two degrees may change places. In the degree of the one the other makes a row 0, or a column, or nothing, and this is
-- not the pivot's: for an entry at a dead place is no pivot. A row that is 0 stays 0, and takes nothing from others; a column too. In all
-- other degrees both make rows and columns 0. So which comes first makes no difference, and pivots of a greater degree, which come
-- behind a history of smaller ones, may come before it.
use Rattle.std.proofs.Common.{◌≡◌, ◌≢◌, ℕ, ◌*◌, ◌∙◌, List, [], ◌∷◌, ◌++◌, ℤ, pos, ◌+ℤ◌, ◌<ℤ◌, ◌≤ℤ◌, length, refl, ap, sym, subst, arith, Bool, true, false, ◌||◌}
use Rattle.std.specs.Prelude.{nat_eq, slice_index_or, if◌then◌else◌}
use Rattle.std.specs.List.{AllByRecursion}
use Rattle.std.proofs.lemmas.Bool.{eq-eqb, ne_eqb}
use Rattle.std.proofs.lemmas.Int.{ints}
use Rattle.kh_types.specs.Complex.{Complex, Degree, IsComplex, IsPivot, Pivot, cancel, degree_of, entry_in, entry_of}
use Rattle.kh_types.specs.History.{IsLegal, replay}
use Rattle.kh_types.specs.Rank.{inverse, minus_mod}
use Rattle.kh_types.proofs.CancelLemmas.{degrees-cancel, places-cancel}
use Rattle.kh_types.proofs.MatrixEntries.{entry-cancelled_matrix, entry-without_column, entry-without_row, entry_cancelled}
use Rattle.kh_types.proofs.Reduced.{minus_mod-nothing}
use Rattle.prime_field.specs.Residues.{IsField}
use Rattle.sparse_block.proofs.CancelledComplexes.{complex-cancel}
use Rattle.sparse_block.proofs.CancelledDegrees.{Where, where_is, degree-after_pivot, degree-at_pivot, degree-before_pivot, degree-elsewhere}
use Rattle.sparse_block.proofs.ComplexMatrices.{entry-stands, matrix-of_degree}
use Rattle.column_reduction.specs.Reductions.{is_place_alive}
use Rattle.column_reduction.proofs.Alike.{complex-alike}
use Rattle.column_reduction.proofs.Others.{alive-without}

-- two tests in either order
swapped : {X : Type 0} (a b : Bool) (none x : X) → (if a then none else (if b then none else x)) ≡ (if b then none else (if a then none else x))
swapped true true none x = refl
swapped true false none x = refl
swapped false true none x = refl
swapped false false none x = refl

chosen-none : (b : Bool) (none : ℕ) → (if b then none else none) ≡ none
chosen-none true none = refl
chosen-none false none = refl

-- a matrix with rows 0 but the pivot's, and one with such columns: what the cancellation leaves of it
module _ (p a b : ℕ) (whole part : ℕ → ℕ → ℕ) where
  agree : (row column : ℕ) → part row column ≡ whole row column → part row b ≡ whole row b → part a b ≡ whole a b
      → part a column ≡ whole a column → entry_cancelled p a b part row column ≡ entry_cancelled p a b whole row column
  agree row column entry in_row pivot in_column =
      ap (λ (x : ℕ). if nat_eq row a || nat_eq column b then 0 else minus_mod p x (part row b * (inverse p (part a b) * part a column))) entry
      ∙ ap (λ (x : ℕ). if nat_eq row a || nat_eq column b then 0 else minus_mod p (whole row column) (x * (inverse p (part a b) * part a column))) in_row
      ∙ ap (λ (x : ℕ). if nat_eq row a || nat_eq column b then 0 else minus_mod p (whole row column) (whole row b * (inverse p x * part a column))) pivot
      ∙ ap (λ (x : ℕ). if nat_eq row a || nat_eq column b then 0 else minus_mod p (whole row column) (whole row b * (inverse p (whole a b) * x))) in_column

  nothing : (row column : ℕ) → part row column ≡ 0 → part row b * (inverse p (part a b) * part a column) ≡ 0
      → entry_cancelled p a b part row column ≡ 0
  nothing row column entry way =
      ap (λ (x : ℕ). if nat_eq row a || nat_eq column b then 0 else x)
      (ap (λ (x : ℕ). minus_mod p x (part row b * (inverse p (part a b) * part a column))) entry
      ∙ minus_mod-nothing p (part row b * (inverse p (part a b) * part a column)) way)
      ∙ chosen-none (nat_eq row a || nat_eq column b) 0

  rows-first : (none : ℕ → Bool) → ((row column : ℕ) → part row column ≡ (if none row then 0 else whole row column)) → none a ≡ false
      → (row column : ℕ) → entry_cancelled p a b part row column ≡ (if none row then 0 else entry_cancelled p a b whole row column)
  rows-first none is_part own row column = at (none row) refl
    where
      part-at : (r c : ℕ) (test : Bool) → none r ≡ test → part r c ≡ (if test then 0 else whole r c)
      part-at r c test same = is_part r c ∙ ap (λ (t : Bool). if t then 0 else whole r c) same

      at : (test : Bool) → none row ≡ test → entry_cancelled p a b part row column ≡ (if test then 0 else entry_cancelled p a b whole row column)
      at true same =
          nothing row column (part-at row column true same)
          (ap (λ (x : ℕ). x * (inverse p (part a b) * part a column)) (part-at row b true same) ∙ omega arith)
      at false same =
          agree row column (part-at row column false same) (part-at row b false same) (part-at a b false own) (part-at a column false own)

  columns-first : (none : ℕ → Bool) → ((row column : ℕ) → part row column ≡ (if none column then 0 else whole row column)) → none b ≡ false
      → (row column : ℕ) → entry_cancelled p a b part row column ≡ (if none column then 0 else entry_cancelled p a b whole row column)
  columns-first none is_part own row column = at (none column) refl
    where
      part-at : (r c : ℕ) (test : Bool) → none c ≡ test → part r c ≡ (if test then 0 else whole r c)
      part-at r c test same = is_part r c ∙ ap (λ (t : Bool). if t then 0 else whole r c) same

      at : (test : Bool) → none column ≡ test
          → entry_cancelled p a b part row column ≡ (if test then 0 else entry_cancelled p a b whole row column)
      at true same =
          nothing row column (part-at row column true same)
          (ap (λ (x : ℕ). part row b * (inverse p (part a b) * x)) (part-at a column true same) ∙ omega arith)
      at false same =
          agree row column (part-at row column false same) (part-at row b false own) (part-at a b false own) (part-at a column false same)

-- what a cancellation makes of the entries of a degree
module _ (p : ℕ) (pivot : Pivot) (i : ℤ) (complex : Complex) where
  entry-own : IsComplex p complex → IsPivot complex pivot → i ≡ pivot.degree → (row column : ℕ)
      → entry_of (cancel p complex pivot) i row column ≡ entry_cancelled p pivot.row pivot.column (entry_of complex i) row column
  entry-own is is_pivot here row column =
      let stands = entry-stands p complex pivot.degree pivot.row pivot.column is is_pivot in
      let same = ap (λ (m : ℤ). length (degree_of complex m).matrix) here in
      ap (λ (degree : Degree). entry_in degree.matrix row column) (degree-at_pivot p complex pivot i here)
      ∙ entry-cancelled_matrix p pivot (degree_of complex i).matrix (length (degree_of complex i).alive) (matrix-of_degree p complex is i)
      (omega (arith, same, stands.row_within)) row column

  entry-after : i ≡ pivot.degree +ℤ pos 1 → (row column : ℕ)
      → entry_of (cancel p complex pivot) i row column ≡ (if nat_eq column pivot.row then 0 else entry_of complex i row column)
  entry-after here row column =
      ap (λ (degree : Degree). entry_in degree.matrix row column) (degree-after_pivot p complex pivot i here)
      ∙ entry-without_column pivot.row (degree_of complex i).matrix row column

  entry-before : i +ℤ pos 1 ≡ pivot.degree → (row column : ℕ)
      → entry_of (cancel p complex pivot) i row column ≡ (if nat_eq row pivot.column then 0 else entry_of complex i row column)
  entry-before here row column =
      ap (λ (degree : Degree). entry_in degree.matrix row column) (degree-before_pivot p complex pivot i here)
      ∙ entry-without_row pivot.column (degree_of complex i).matrix row column

  entry-elsewhere : i ≢ pivot.degree → i ≢ pivot.degree +ℤ pos 1 → i +ℤ pos 1 ≢ pivot.degree → (row column : ℕ)
      → entry_of (cancel p complex pivot) i row column ≡ entry_of complex i row column
  entry-elsewhere not_at not_after not_before row column =
      ap (λ (degree : Degree). entry_in degree.matrix row column) (degree-elsewhere p complex pivot i not_at not_after not_before)

-- in other degrees than its own it makes entries 0, and which does not depend on the complex; so for the places that die
record Clears (p : ℕ) (pivot : Pivot) (i : ℤ) : Type 0 where
  none : ℕ → ℕ → Bool
  entries : (complex : Complex) (row column : ℕ) → entry_of (cancel p complex pivot) i row column
      ≡ (if none row column then 0 else entry_of complex i row column)

clears : (p : ℕ) (pivot : Pivot) (i : ℤ) → i ≢ pivot.degree → Clears p pivot i
clears p pivot i other =
    elim (where_is i pivot.degree) [
      | Where.is_at here ↦ absurd (other here)
      | Where.is_after here ↦
          record { none = λ row column. nat_eq column pivot.row; entries = λ complex. entry-after p pivot i complex here }
      | Where.is_before here ↦
          record { none = λ row column. nat_eq row pivot.column; entries = λ complex. entry-before p pivot i complex here }
      | Where.is_elsewhere not_at not_after not_before ↦
          record { none = λ row column. false; entries = λ complex. entry-elsewhere p pivot i complex not_at not_after not_before }
    ]

record Kills (p : ℕ) (pivot : Pivot) (i : ℤ) : Type 0 where
  none : ℕ → Bool
  places : (complex : Complex) (place : ℕ)
      → is_place_alive (cancel p complex pivot) i place ≡ (if none place then false else is_place_alive complex i place)

kills : (p : ℕ) (pivot : Pivot) (i : ℤ) → Kills p pivot i
kills p pivot i =
    let alive : Degree → ℕ → Bool = λ degree place. slice_index_or degree.alive place false in
    elim (where_is i pivot.degree) [
      | Where.is_at here ↦
          record {
            none = λ place. nat_eq place pivot.column;
            places = λ complex place. ap (λ (degree : Degree). alive degree place) (degree-at_pivot p complex pivot i here)
                ∙ alive-without pivot.column place (degree_of complex i).alive;
          }
      | Where.is_after here ↦
          record {
            none = λ place. nat_eq place pivot.row;
            places = λ complex place. ap (λ (degree : Degree). alive degree place) (degree-after_pivot p complex pivot i here)
                ∙ alive-without pivot.row place (degree_of complex i).alive;
          }
      | Where.is_before here ↦
          record {
            none = λ place. false;
            places = λ complex place. ap (λ (degree : Degree). alive degree place) (degree-before_pivot p complex pivot i here);
          }
      | Where.is_elsewhere not_at not_after not_before ↦
          record {
            none = λ place. false;
            places = λ complex place.
                ap (λ (degree : Degree). alive degree place) (degree-elsewhere p complex pivot i not_at not_after not_before);
          }
    ]

-- a pivot, and one of a greater degree behind it
module _ (p : ℕ) (complex : Complex) (first second : Pivot) (field : IsField p) (is : IsComplex p complex)
    (is_first : IsPivot complex first) (is_second : IsPivot (cancel p complex first) second) (less : first.degree <ℤ second.degree) where
  abbrev one : Complex
  one = cancel p complex first

  abbrev two : Complex
  two = cancel p complex second

  is_one : IsComplex p one
  is_one = complex-cancel p complex first field is is_first

  apart : second.degree ≡ first.degree +ℤ pos 1 → second.column ≢ first.row
  apart next same =
      is_second
      (entry-after p first second.degree complex next second.row second.column
      ∙ ap (λ (test : Bool). if test then 0 else entry_of complex second.degree second.row second.column)
      (eq-eqb second.column first.row same))

  -- what the first makes 0 in the degree of the second is no column of that pivot
  record Columns : Type 0 where
    none : ℕ → Bool
    entries : (made : Complex) (row column : ℕ) → entry_of (cancel p made first) second.degree row column
        ≡ (if none column then 0 else entry_of made second.degree row column)
    own : none second.column ≡ false

  columns : Columns
  columns =
      elim (where_is second.degree first.degree) [
        | Where.is_at here ↦ absurd (omega (arith, ints, here, less))
        | Where.is_after here ↦
            record {
              none = λ column. nat_eq column first.row;
              entries = λ made. entry-after p first second.degree made here;
              own = ne_eqb second.column first.row (apart here);
            }
        | Where.is_before here ↦ absurd (omega (arith, ints, here, less))
        | Where.is_elsewhere not_at not_after not_before ↦
            record {
              none = λ column. false;
              entries = λ made. entry-elsewhere p first second.degree made not_at not_after not_before;
              own = refl;
            }
      ]

  -- and what the second makes 0 in the degree of the first is no row of that one
  record Rows : Type 0 where
    none : ℕ → Bool
    entries : (made : Complex) (row column : ℕ) → entry_of (cancel p made second) first.degree row column
        ≡ (if none row then 0 else entry_of made first.degree row column)
    own : none first.row ≡ false

  rows : Rows
  rows =
      elim (where_is first.degree second.degree) [
        | Where.is_at here ↦ absurd (omega (arith, ints, here, less))
        | Where.is_after here ↦ absurd (omega (arith, ints, here, less))
        | Where.is_before here ↦
            record {
              none = λ row. nat_eq row second.column;
              entries = λ made. entry-before p second first.degree made here;
              own = ne_eqb first.row second.column (λ same. apart (sym here) (sym same));
            }
        | Where.is_elsewhere not_at not_after not_before ↦
            record {
              none = λ row. false;
              entries = λ made. entry-elsewhere p second first.degree made not_at not_after not_before;
              own = refl;
            }
      ]

  -- so both are pivots also in the other order
  pub second-alone : IsPivot complex second
  second-alone none =
      is_second
      (columns.entries complex second.row second.column
      ∙ ap (λ (x : ℕ). if columns.none second.column then 0 else x) none ∙ chosen-none (columns.none second.column) 0)

  pub first-later : IsPivot (cancel p complex second) first
  first-later none =
      is_first
      (sym (rows.entries complex first.row first.column
      ∙ ap (λ (test : Bool). if test then 0 else entry_of complex first.degree first.row first.column) rows.own)
      ∙ none)

  is_two : IsComplex p two
  is_two = complex-cancel p complex second field is second-alone

  entries-alike : (i : ℤ) (row column : ℕ) → entry_of (cancel p two first) i row column ≡ entry_of (cancel p one second) i row column
  entries-alike i row column =
      elim (where_is i first.degree) [
        | Where.is_at here ↦ at_first here
        | Where.is_after next ↦ beside (λ same. omega (arith, ints, next, same))
        | Where.is_before next ↦ beside (λ same. omega (arith, ints, next, same))
        | Where.is_elsewhere not_at not_after not_before ↦ beside not_at
      ]
    where
      at_first : i ≡ first.degree → entry_of (cancel p two first) i row column ≡ entry_of (cancel p one second) i row column
      at_first here =
          let part : (r c : ℕ) → entry_of two i r c ≡ (if rows.none r then 0 else entry_of complex i r c) =
          λ r c. ap (λ (m : ℤ). entry_of two m r c) here ∙ rows.entries complex r c
          ∙ ap (λ (m : ℤ). if rows.none r then 0 else entry_of complex m r c) (sym here) in
          entry-own p first i two is_two first-later here row column
          ∙ rows-first p first.row first.column (entry_of complex i) (entry_of two i) rows.none part rows.own row column
          ∙ ap (λ (x : ℕ). if rows.none row then 0 else x) (sym (entry-own p first i complex is is_first here row column))
          ∙ sym (ap (λ (m : ℤ). entry_of (cancel p one second) m row column) here ∙ rows.entries one row column
          ∙ ap (λ (m : ℤ). if rows.none row then 0 else entry_of one m row column) (sym here))

      at_second : i ≡ second.degree → entry_of (cancel p two first) i row column ≡ entry_of (cancel p one second) i row column
      at_second here =
          let part : (r c : ℕ) → entry_of one i r c ≡ (if columns.none c then 0 else entry_of complex i r c) =
          λ r c. ap (λ (m : ℤ). entry_of one m r c) here ∙ columns.entries complex r c
          ∙ ap (λ (m : ℤ). if columns.none c then 0 else entry_of complex m r c) (sym here) in
          (ap (λ (m : ℤ). entry_of (cancel p two first) m row column) here ∙ columns.entries two row column
          ∙ ap (λ (m : ℤ). if columns.none column then 0 else entry_of two m row column) (sym here))
          ∙ ap (λ (x : ℕ). if columns.none column then 0 else x) (entry-own p second i complex is second-alone here row column)
          ∙ sym (entry-own p second i one is_one is_second here row column
          ∙ columns-first p second.row second.column (entry_of complex i) (entry_of one i) columns.none part columns.own row column)

      elsewhere : i ≢ first.degree → i ≢ second.degree
          → entry_of (cancel p two first) i row column ≡ entry_of (cancel p one second) i row column
      elsewhere not_first not_second =
          let by_first = clears p first i not_first in
          let by_second = clears p second i not_second in
          by_first.entries two row column
          ∙ ap (λ (x : ℕ). if by_first.none row column then 0 else x) (by_second.entries complex row column)
          ∙ swapped (by_first.none row column) (by_second.none row column) 0 (entry_of complex i row column)
          ∙ ap (λ (x : ℕ). if by_second.none row column then 0 else x) (sym (by_first.entries complex row column))
          ∙ sym (by_second.entries one row column)

      beside : i ≢ first.degree → entry_of (cancel p two first) i row column ≡ entry_of (cancel p one second) i row column
      beside not_first =
          elim (where_is i second.degree) [
            | Where.is_at here ↦ at_second here
            | Where.is_after next ↦ elsewhere not_first (λ same. omega (arith, ints, next, same))
            | Where.is_before next ↦ elsewhere not_first (λ same. omega (arith, ints, next, same))
            | Where.is_elsewhere not_at not_after not_before ↦ elsewhere not_first not_at
          ]

  places-alike : (i : ℤ) (place : ℕ) → is_place_alive (cancel p two first) i place ≡ is_place_alive (cancel p one second) i place
  places-alike i place =
      let by_first = kills p first i in
      let by_second = kills p second i in
      by_first.places two place ∙ ap (λ (x : Bool). if by_first.none place then false else x) (by_second.places complex place)
      ∙ swapped (by_first.none place) (by_second.none place) false (is_place_alive complex i place)
      ∙ ap (λ (x : Bool). if by_second.none place then false else x) (sym (by_first.places complex place))
      ∙ sym (by_second.places one place)

  pub cancel-swapped : cancel p (cancel p complex second) first ≡ cancel p (cancel p complex first) second
  cancel-swapped =
      complex-alike p p (cancel p two first) (cancel p one second) (complex-cancel p two first field is_two first-later)
      (complex-cancel p one second field is_one is_second) refl
      (degrees-cancel p two first ∙ degrees-cancel p complex second
      ∙ sym (degrees-cancel p one second ∙ degrees-cancel p complex first))
      (λ i. places-cancel p two first i ∙ places-cancel p complex second i
      ∙ sym (places-cancel p one second i ∙ places-cancel p complex first i)) places-alike entries-alike

-- a pivot behind a history of smaller degrees may come before it
record ComesFirst (p : ℕ) (complex : Complex) (pivot : Pivot) (history : List Pivot) : Type 0 where
  is_pivot : IsPivot complex pivot
  legal : IsLegal p (cancel p complex pivot) history
  same : replay p (cancel p complex pivot) history ≡ cancel p (replay p complex history) pivot

comes-first : (p : ℕ) (complex : Complex) (pivot : Pivot) (history : List Pivot) → IsField p → IsComplex p complex
    → AllByRecursion (λ before. before.degree <ℤ pivot.degree) history → IsLegal p complex history
    → IsPivot (replay p complex history) pivot → ComesFirst p complex pivot history
comes-first p complex pivot [] field is less legal is_pivot = record { is_pivot = is_pivot; legal = tt; same = refl }
comes-first p complex pivot (first ∷ later) field is less legal is_pivot =
    let rest =
    comes-first p (cancel p complex first) pivot later field (complex-cancel p complex first field is legal.0) less.1 legal.1 is_pivot in
    let swap = cancel-swapped p complex first pivot field is legal.0 rest.is_pivot less.0 in
    record {
      is_pivot = second-alone p complex first pivot field is legal.0 rest.is_pivot less.0;
      legal = (
        first-later p complex first pivot field is legal.0 rest.is_pivot less.0,
        subst (λ (made : Complex). IsLegal p made later) (sym swap) rest.legal,
      );
      same = ap (λ (made : Complex). replay p made later) swap ∙ rest.same;
    }

-- and so may all of some pivots of greater degrees
less-all : (history : List Pivot) (i j : ℤ) → i ≤ℤ j → AllByRecursion (λ before. before.degree <ℤ i) history
    → AllByRecursion (λ before. before.degree <ℤ j) history
less-all [] i j within less = tt
less-all (pivot ∷ later) i j within less = (omega (arith, ints, within, less.0), less-all later i j within less.1)

pub record ComeFirst (p : ℕ) (complex : Complex) (pivots history : List Pivot) : Type 0 where
  pub legal : IsLegal p complex (pivots ++ history)
  pub same : replay p complex (pivots ++ history) ≡ replay p (replay p complex history) pivots

pub come-first : (p : ℕ) (complex : Complex) (i : ℤ) (pivots history : List Pivot) → IsField p → IsComplex p complex
    → AllByRecursion (λ before. before.degree <ℤ i) history → AllByRecursion (λ pivot. i ≤ℤ pivot.degree) pivots
    → IsLegal p complex history → IsLegal p (replay p complex history) pivots → ComeFirst p complex pivots history
come-first p complex i [] history field is less greater legal more = record { legal = legal; same = refl }
come-first p complex i (pivot ∷ pivots) history field is less greater legal more =
    let first =
    comes-first p complex pivot history field is (less-all history i pivot.degree greater.0 less) legal more.0 in
    let rest =
    come-first p (cancel p complex pivot) i pivots history field (complex-cancel p complex pivot field is first.is_pivot) less greater.1
    first.legal (subst (λ (made : Complex). IsLegal p made pivots) (sym first.same) more.1) in
    record {
      legal = (first.is_pivot, rest.legal);
      same = rest.same ∙ ap (λ (made : Complex). replay p made pivots) first.same;
    }
