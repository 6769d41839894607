-- A complex, reduced from its least degree up: at first no degree, then one degree more, and in the end all. The history so far is kept
-- legal, with the places that are alive after it; no entry leads out of the degrees that are reduced, and the entries out of all others
-- are as at first, but 0 in columns that are dead. At first this holds since a complex has no entries at dead places. For one degree
-- more, the columns of the degree that are alive are those of the complex as it stands, so the stored columns reduce this degree. In the
-- next degree the columns that are last rows of theirs are now dead and 0; further up nothing changes. Their pivots come before those
-- of the smaller degrees, since cancellations in two degrees may change places. In the end there is no entry out of any degree, and the
-- complex is zero.
use Rattle.std.proofs.Common.{◌≡◌, ℕ, ◌+◌, ◌∙◌, inl, inr, List, [], ◌∷◌, ◌++◌, ℤ, pos, ◌+ℤ◌, ◌<ℤ◌, length, refl, ap, sym, subst, arith, Bool, true, false}
use Rattle.std.specs.Prelude.{slice_index_or, if◌then◌else◌}
use Rattle.std.specs.List.{AllByRecursion}
use Rattle.std.proofs.lemmas.Bool.Decides.{eqb_tells}
use Rattle.std.proofs.lemmas.Int.{ints}
use Rattle.std.proofs.lemmas.List.{get_or_default, length-append}
use Rattle.kh_types.specs.Complex.{Complex, Degree, IsComplex, Pivot, degree_of, entry_in, entry_of}
use Rattle.kh_types.specs.History.{replay}
use Rattle.prime_field.specs.Residues.{IsField}
use Rattle.sparse_block.specs.Complexes.{place_count}
use Rattle.sparse_block.proofs.CancelledDegrees.{Where, where_is}
use Rattle.sparse_block.proofs.ComplexMatrices.{entry-stands}
use Rattle.column_reduction.proofs.Chains.{greatest-longer, reduced-longer}
use Rattle.column_reduction.proofs.Commuting.{ComeFirst, come-first}
use Rattle.sparse_block.proofs.HistoryLemmas.{complex-replay, low-replay}
use Rattle.column_reduction.specs.Reductions.{AreReduced, AreReducedUp, HaveNoEntryBelow, IsReducedComplex, IsReducedDegree, is_last_row, is_place_alive}
use Rattle.column_reduction.specs.StoredColumns.{AreFirstReduced, HasColumns, IsReducedTo, StoredColumn, alive_in, reduced_columns, stored_pivots, with_pairs}
use Rattle.column_reduction.proofs.Ends.{below-low, below-next, less-degrees, own-degrees}
use Rattle.column_reduction.proofs.Marks.{alive-number, alive_in-pairs}
use Rattle.column_reduction.proofs.Others.{next-alive, next-entries, other-degrees}

-- in a complex the entries in columns that are not alive are 0
entries-alive : (p : ℕ) (complex : Complex) (i : ℤ) (row column : ℕ) → IsComplex p complex
    → entry_of complex i row column ≡ (if is_place_alive complex i column then entry_of complex i row column else 0)
entries-alive p complex i row column is = at (is_place_alive complex i column) refl
  where
    at : (b : Bool) → is_place_alive complex i column ≡ b → entry_of complex i row column ≡ (if b then entry_of complex i row column else 0)
    at true same = refl
    at false dead =
        elim (eqb_tells (entry_of complex i row column) 0) [
          | inl none ↦ none.1
          | inr other ↦
              let stands = entry-stands p complex i row column is other.1 in
              is.dead_column i row column
              (get_or_default (degree_of complex i).alive column true false stands.column_place ∙ dead)
        ]

-- at first no degree is reduced
pub reduced_to-first : (p : ℕ) (complex : Complex) (places : List (List Bool)) → IsComplex p complex → places ≡ alive_in complex
    → IsReducedTo p complex 0 places []
reduced_to-first p complex places is alive =
    record {
      degrees = [];
      count = refl;
      up = refl;
      listed = refl;
      legal = tt;
      alive = alive;
      below = subst (HaveNoEntryBelow complex) (omega (arith, ints)) (below-low p complex is);
      above = λ j later row column. entries-alive p complex j row column is;
    }

-- in the end all are
pub reduced_to-all : (p k : ℕ) (complex : Complex) (places : List (List Bool)) (pivots : List Pivot) → k ≡ length complex.degrees
    → IsReducedTo p complex k places pivots → IsReducedComplex p complex pivots (replay p complex pivots)
reduced_to-all p k complex places pivots all reduced =
    record { degrees = reduced.degrees; count = reduced.count ∙ all; up = reduced.up; listed = reduced.listed }

-- one degree more, of which the stored columns are what reduction makes
module _ (p k : ℕ) (complex : Complex) (i : ℤ) (places : List (List Bool)) (pivots : List Pivot) (stored : List StoredColumn)
    (field : IsField p) (is : IsComplex p complex) (so_far : IsReducedTo p complex k places pivots)
    (here : i ≡ complex.low +ℤ pos k)
    (step : IsReducedDegree p (replay p complex pivots) i (reduced_columns stored)
    (replay p (replay p complex pivots) (stored_pivots i stored))) where
  abbrev now : Complex
  now = replay p complex pivots

  abbrev after : Complex
  after = replay p now (stored_pivots i stored)

  is_now : IsComplex p now
  is_now = complex-replay p complex pivots field is so_far.legal

  low_now : now.low ≡ complex.low
  low_now = low-replay p complex pivots

  chosen : (b a : Bool) (x : ℕ) → (if b then 0 else (if a then x else 0)) ≡ (if (if b then false else a) then x else 0)
  chosen true a x = refl
  chosen false a x = refl

  -- those above
  above_after : (j : ℤ) → i <ℤ j → (row column : ℕ)
      → entry_of after j row column ≡ (if is_place_alive after j column then entry_of complex j row column else 0)
  above_after j later row column =
      let was : entry_of now j row column ≡ (if is_place_alive now j column then entry_of complex j row column else 0) =
      so_far.above j (omega (arith, ints, later, here)) row column in
      let x = entry_of complex j row column in
      elim (where_is j i) [
        | Where.is_at same ↦ absurd (omega (arith, ints, later, same))
        | Where.is_before next ↦ absurd (omega (arith, ints, later, next))
        | Where.is_after next ↦
            let b = is_last_row column (reduced_columns stored) in
            let entry : entry_of after j row column ≡ (if b then 0 else entry_of now j row column) =
            subst (λ (m : ℤ). entry_of after m row column ≡ (if b then 0 else entry_of now m row column)) (sym next)
            (next-entries p now after i (place_count now i) (reduced_columns stored) step row column) in
            let alive : is_place_alive after j column ≡ (if b then false else is_place_alive now j column) =
            subst (λ (m : ℤ). is_place_alive after m column ≡ (if b then false else is_place_alive now m column)) (sym next)
            (next-alive p now after i (place_count now i) (reduced_columns stored) step column) in
            entry ∙ ap (λ (n : ℕ). if b then 0 else n) was ∙ chosen b (is_place_alive now j column) x
            ∙ ap (λ (a : Bool). if a then x else 0) (sym alive)
        | Where.is_elsewhere not_at not_after not_before ↦
            let same = other-degrees p now after i (place_count now i) (reduced_columns stored) step j not_at not_after not_before in
            ap (λ (degree : Degree). entry_in degree.matrix row column) same ∙ was
            ∙ ap (λ (degree : Degree). if slice_index_or degree.alive column false then x else 0) (sym same)
      ]

  -- the pivots so far are of smaller degrees
  smaller : AllByRecursion (λ pivot. pivot.degree <ℤ i) pivots
  smaller =
      subst (AllByRecursion (λ pivot. pivot.degree <ℤ i)) (sym so_far.listed)
      (less-degrees i complex.low so_far.degrees (omega (arith, ints, here, so_far.count)))

  both : ComeFirst p complex (stored_pivots i stored) pivots
  both =
      come-first p complex i (stored_pivots i stored) pivots field is smaller (own-degrees i i (reduced_columns stored) (omega (arith, ints))) so_far.legal
      step.legal

  pub reduced_to-same : replay p complex (stored_pivots i stored ++ pivots) ≡ replay p (replay p complex pivots) (stored_pivots i stored)
  reduced_to-same = both.same

  pub reduced_to-step : IsReducedTo p complex (k + 1) (with_pairs k places stored) (stored_pivots i stored ++ pivots)
  reduced_to-step =
      let last : i ≡ complex.low +ℤ pos (length so_far.degrees) = omega (arith, ints, here, so_far.count) in
      let next : i +ℤ pos 1 ≡ complex.low +ℤ pos (k + 1) = omega (arith, ints, here) in
      record {
        degrees = so_far.degrees ++ reduced_columns stored ∷ [];
        count = omega (arith, length-append so_far.degrees (reduced_columns stored ∷ []), so_far.count);
        up = subst (AreReducedUp p complex complex.low (so_far.degrees ++ reduced_columns stored ∷ [])) (sym both.same)
            (reduced-longer p complex now after complex.low i so_far.degrees (reduced_columns stored) so_far.up last step);
        listed = ap (λ (pivots : List Pivot). stored_pivots i stored ++ pivots) so_far.listed
            ∙ sym (greatest-longer complex.low i so_far.degrees (reduced_columns stored) last);
        legal = both.legal;
        alive = ap (λ (places : List (List Bool)). with_pairs k places stored) so_far.alive
            ∙ alive_in-pairs p k now i stored (omega (arith, ints, here, low_now)) ∙ ap alive_in (sym both.same);
        below = subst (λ (made : Complex). HaveNoEntryBelow made (complex.low +ℤ pos (k + 1))) (sym both.same)
            (subst (HaveNoEntryBelow after) next
            (below-next p now after i (reduced_columns stored) field is_now step
            (subst (HaveNoEntryBelow now) (sym here) so_far.below)));
        above = λ j later row column.
            subst
            (λ (made : Complex).
            entry_of made j row column ≡ (if is_place_alive made j column then entry_of complex j row column else 0)) (sym both.same)
            (above_after j (omega (arith, ints, later, here)) row column);
      }

-- so where its columns are those of the places alive
module _ (p k : ℕ) (complex : Complex) (i : ℤ) (places : List (List Bool)) (pivots : List Pivot) (stored : List StoredColumn)
    (field : IsField p) (is : IsComplex p complex) (so_far : IsReducedTo p complex k places pivots)
    (here : i ≡ complex.low +ℤ pos k)
    (are : AreFirstReduced p complex i (slice_index_or places k []) (length (slice_index_or places k [])) stored) where
  abbrev left_now : Complex
  left_now = replay p complex pivots

  alive_here : slice_index_or places k [] ≡ (degree_of left_now i).alive
  alive_here =
      let low : left_now.low ≡ complex.low = low-replay p complex pivots in
      let same : left_now.low +ℤ pos k ≡ i = omega (arith, ints, here, low) in
      ap (λ (places : List (List Bool)). slice_index_or places k []) so_far.alive ∙ alive-number left_now k
      ∙ ap (λ (j : ℤ). (degree_of left_now j).alive) same

  has : HasColumns left_now complex i (slice_index_or places k [])
  has =
      record {
        count = ap length (sym alive_here);
        entries = λ row column.
            so_far.above i (omega (arith, ints, here)) row column
            ∙ ap (λ (alive : List Bool). if slice_index_or alive column false then entry_of complex i row column else 0)
            (sym alive_here);
      }

  pub reduced_to-next : IsReducedTo p complex (k + 1) (with_pairs k places stored) (stored_pivots i stored ++ pivots)
  reduced_to-next =
      reduced_to-step p k complex i places pivots stored field is so_far here
      (subst (λ (n : ℕ). AreReduced p left_now i n (reduced_columns stored) (replay p left_now (stored_pivots i stored))) (sym has.count)
      (are left_now (complex-replay p complex pivots field is so_far.legal) has))
