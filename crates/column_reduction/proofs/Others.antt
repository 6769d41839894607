-- The other degrees after the pivots of one degree: in the next degree the columns of the last rows are 0, in the one before the rows of
-- the reduced columns, and these places are dead.
use Rattle.std.proofs.Common.{◌≡◌, ◌≢◌, ℕ, zero, suc, ◌+◌, ◌∙◌, List, [], ◌∷◌, ℤ, pos, ◌+ℤ◌, ◌-ℤ◌, map, refl, ap, arith, Bool, true, false, ◌||◌}
use Rattle.std.specs.Prelude.{nat_eq, slice_index_or, if◌then◌else◌}
use Rattle.std.specs.List.{enumerate_from}
use Rattle.std.proofs.lemmas.Int.{ints}
use Rattle.kh_types.specs.Complex.{Complex, Degree, cancel, degree_of, entry_in, entry_of, pivot_at, without_place}
use Rattle.kh_types.specs.History.{replay}
use Rattle.kh_types.proofs.MatrixEntries.{entry-without_column, entry-without_row}
use Rattle.sparse_block.proofs.CancelledDegrees.{degree-after_pivot, degree-at_pivot, degree-before_pivot, degree-elsewhere}
use Rattle.column_reduction.specs.Reductions.{ReducedColumn, AreReduced, is_place_alive, is_last_row, is_pivot_column, pivots_of}

chosen-twice : {X : Type 0} (a b : Bool) (none x : X)
    → (if b then none else (if a then none else x)) ≡ (if a || b then none else x)
chosen-twice true true none x = refl
chosen-twice true false none x = refl
chosen-twice false true none x = refl
chosen-twice false false none x = refl

chosen-same : (a : Bool) → false ≡ (if a then false else false)
chosen-same true = refl
chosen-same false = refl

-- a place, after one has died
alive-from : (place n k j : ℕ) (alive : List Bool) → n + k ≡ j
    → slice_index_or (map (λ at. if nat_eq at.0 place then false else at.1) (enumerate_from n alive)) k false
    ≡ (if nat_eq j place then false else slice_index_or alive k false)
alive-from place n k j [] is_j = chosen-same (nat_eq j place)
alive-from place n zero j (first ∷ rest) is_j =
    let e : n ≡ j = omega arith in ap (λ (m : ℕ). if nat_eq m place then false else first) e
alive-from place n (suc k) j (first ∷ rest) is_j = alive-from place (n + 1) k j rest (omega arith)

pub alive-without : (place k : ℕ) (alive : List Bool)
    → slice_index_or (without_place place alive) k false ≡ (if nat_eq k place then false else slice_index_or alive k false)
alive-without place k alive = alive-from place 0 k k alive (omega arith)

-- along the history

entry-next : (p : ℕ) (before : Complex) (i j : ℤ) (reduced : List ReducedColumn) (row column : ℕ) → j ≡ i +ℤ pos 1
    → entry_of (replay p before (pivots_of i reduced)) j row column
    ≡ (if is_last_row column reduced then 0 else entry_of before j row column)
entry-next p before i j [] row column here = refl
entry-next p before i j (line ∷ lines) row column here =
    let pivot = pivot_at i line.column line.row in
    entry-next p (cancel p before pivot) i j lines row column here
    ∙ ap (λ (x : ℕ). if is_last_row column lines then 0 else x)
    (ap (λ (degree : Degree). entry_in degree.matrix row column) (degree-after_pivot p before pivot j here)
    ∙ entry-without_column line.row (degree_of before j).matrix row column)
    ∙ chosen-twice (nat_eq column line.row) (is_last_row column lines) 0 (entry_of before j row column)

entry-previous : (p : ℕ) (before : Complex) (i j : ℤ) (reduced : List ReducedColumn) (row column : ℕ) → j +ℤ pos 1 ≡ i
    → entry_of (replay p before (pivots_of i reduced)) j row column
    ≡ (if is_pivot_column row reduced then 0 else entry_of before j row column)
entry-previous p before i j [] row column here = refl
entry-previous p before i j (line ∷ lines) row column here =
    let pivot = pivot_at i line.column line.row in
    entry-previous p (cancel p before pivot) i j lines row column here
    ∙ ap (λ (x : ℕ). if is_pivot_column row lines then 0 else x)
    (ap (λ (degree : Degree). entry_in degree.matrix row column) (degree-before_pivot p before pivot j here)
    ∙ entry-without_row line.column (degree_of before j).matrix row column)
    ∙ chosen-twice (nat_eq row line.column) (is_pivot_column row lines) 0 (entry_of before j row column)

alive-own : (p : ℕ) (before : Complex) (i : ℤ) (reduced : List ReducedColumn) (place : ℕ)
    → is_place_alive (replay p before (pivots_of i reduced)) i place ≡ (if is_pivot_column place reduced then false else is_place_alive before i place)
alive-own p before i [] place = refl
alive-own p before i (line ∷ lines) place =
    let pivot = pivot_at i line.column line.row in
    alive-own p (cancel p before pivot) i lines place
    ∙ ap (λ (x : Bool). if is_pivot_column place lines then false else x)
    (ap (λ (degree : Degree). slice_index_or degree.alive place false) (degree-at_pivot p before pivot i refl)
    ∙ alive-without line.column place (degree_of before i).alive)
    ∙ chosen-twice (nat_eq place line.column) (is_pivot_column place lines) false (is_place_alive before i place)

alive-next : (p : ℕ) (before : Complex) (i j : ℤ) (reduced : List ReducedColumn) (place : ℕ) → j ≡ i +ℤ pos 1
    → is_place_alive (replay p before (pivots_of i reduced)) j place ≡ (if is_last_row place reduced then false else is_place_alive before j place)
alive-next p before i j [] place here = refl
alive-next p before i j (line ∷ lines) place here =
    let pivot = pivot_at i line.column line.row in
    alive-next p (cancel p before pivot) i j lines place here
    ∙ ap (λ (x : Bool). if is_last_row place lines then false else x)
    (ap (λ (degree : Degree). slice_index_or degree.alive place false) (degree-after_pivot p before pivot j here)
    ∙ alive-without line.row place (degree_of before j).alive)
    ∙ chosen-twice (nat_eq place line.row) (is_last_row place lines) false (is_place_alive before j place)

alive-previous : (p : ℕ) (before : Complex) (i j : ℤ) (reduced : List ReducedColumn) → j +ℤ pos 1 ≡ i
    → (degree_of (replay p before (pivots_of i reduced)) j).alive ≡ (degree_of before j).alive
alive-previous p before i j [] here = refl
alive-previous p before i j (line ∷ lines) here =
    let pivot = pivot_at i line.column line.row in
    alive-previous p (cancel p before pivot) i j lines here
    ∙ ap (λ (degree : Degree). degree.alive) (degree-before_pivot p before pivot j here)

degree-other : (p : ℕ) (before : Complex) (i j : ℤ) (reduced : List ReducedColumn) → j ≢ i → j ≢ i +ℤ pos 1 → j +ℤ pos 1 ≢ i
    → degree_of (replay p before (pivots_of i reduced)) j ≡ degree_of before j
degree-other p before i j [] not_here not_next not_previous = refl
degree-other p before i j (line ∷ lines) not_here not_next not_previous =
    let pivot = pivot_at i line.column line.row in
    degree-other p (cancel p before pivot) i j lines not_here not_next not_previous
    ∙ degree-elsewhere p before pivot j not_here not_next not_previous

-- so in what the reduction leaves
module _ (p : ℕ) (before after : Complex) (i : ℤ) (count : ℕ) (reduced : List ReducedColumn)
    (so_far : AreReduced p before i count reduced after) where
  pub next-entries : (row column : ℕ)
      → entry_of after (i +ℤ pos 1) row column ≡ (if is_last_row column reduced then 0 else entry_of before (i +ℤ pos 1) row column)
  next-entries row column =
      ap (λ (complex : Complex). entry_of complex (i +ℤ pos 1) row column) so_far.replayed
      ∙ entry-next p before i (i +ℤ pos 1) reduced row column refl

  pub previous-entries : (row column : ℕ)
      → entry_of after (i -ℤ pos 1) row column ≡ (if is_pivot_column row reduced then 0 else entry_of before (i -ℤ pos 1) row column)
  previous-entries row column =
      ap (λ (complex : Complex). entry_of complex (i -ℤ pos 1) row column) so_far.replayed
      ∙ entry-previous p before i (i -ℤ pos 1) reduced row column (omega (arith, ints))

  pub own-alive : (place : ℕ) → is_place_alive after i place ≡ (if is_pivot_column place reduced then false else is_place_alive before i place)
  own-alive place =
      ap (λ (complex : Complex). is_place_alive complex i place) so_far.replayed ∙ alive-own p before i reduced place

  pub next-alive : (place : ℕ)
      → is_place_alive after (i +ℤ pos 1) place ≡ (if is_last_row place reduced then false else is_place_alive before (i +ℤ pos 1) place)
  next-alive place =
      ap (λ (complex : Complex). is_place_alive complex (i +ℤ pos 1) place) so_far.replayed
      ∙ alive-next p before i (i +ℤ pos 1) reduced place refl

  pub previous-alive : (degree_of after (i -ℤ pos 1)).alive ≡ (degree_of before (i -ℤ pos 1)).alive
  previous-alive =
      ap (λ (complex : Complex). (degree_of complex (i -ℤ pos 1)).alive) so_far.replayed
      ∙ alive-previous p before i (i -ℤ pos 1) reduced (omega (arith, ints))

  pub other-degrees : (j : ℤ) → j ≢ i → j ≢ i +ℤ pos 1 → j +ℤ pos 1 ≢ i → degree_of after j ≡ degree_of before j
  other-degrees j not_here not_next not_previous =
      ap (λ (complex : Complex). degree_of complex j) so_far.replayed
      ∙ degree-other p before i j reduced not_here not_next not_previous
