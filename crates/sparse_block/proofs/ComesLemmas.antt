-- What stays as cancellations go on: the degrees, the places, and that empty columns are empty. A complex that comes by
-- cancelling is the end of a legal history of another: of none, of one pivot, or of two histories put together. The greatest
-- degree, the number of degrees and that of places stay, as they do along a history. A column of zeros stays one, by cases on its
-- degree: at the pivot's degree it has no entry in the pivot's row, so nothing is taken from it; in the degree after or before, a
-- column or a row is cleared; elsewhere nothing changes. The result is a complex again.
use Rattle.std.proofs.lemmas.Bool.Decides.{nat_tests}
use Rattle.std.proofs.Common.{◌≡◌, ℕ, ◌∙◌, inl, List, [], ◌∷◌, ℤ, length, ap, sym, arith}
use Rattle.std.specs.Prelude.{nat_eq}
use Rattle.kh_types.specs.Complex.{Complex, Degree, IsComplex, IsPivot, Pivot, cancel, degree_of, entry_in, entry_of}
use Rattle.kh_types.specs.History.{IsLegal, replay}
use Rattle.kh_types.proofs.MatrixEntries.{entry-without_column, entry-without_row, if_zero}
use Rattle.prime_field.specs.Residues.{IsField}
use Rattle.sparse_block.specs.Complexes.{column_of, high_of, place_count}
use Rattle.sparse_block.specs.Entries.{entries_of}
use Rattle.sparse_block.specs.Histories.{ComesByCancelling}
use Rattle.sparse_block.proofs.CancelledComplexes.{complex-cancel}
use Rattle.sparse_block.proofs.CancelledDegrees.{Where, where_is, degree-after_pivot, degree-before_pivot, degree-elsewhere}
use Rattle.sparse_block.proofs.CancelledNumbers.{entry-stays}
use Rattle.sparse_block.proofs.EntryValues.{number-none}
use Rattle.sparse_block.proofs.HistoryLemmas.{complex-replay, degrees-replay, legal-append, low-replay, places-replay, replay-append}
use Rattle.sparse_block.proofs.PastLemmas.{entries-zeros}
use Rattle.sparse_block.proofs.ReadingLemmas.{number-column_of}

-- no cancellation, one, and some after others

pub comes-none : (p : ℕ) (before after : Complex) → after ≡ before → ComesByCancelling p before after
comes-none p before after same = record { history = []; legal = tt; replayed = same }

pub comes-one : (p : ℕ) (before after : Complex) (pivot : Pivot) → IsPivot before pivot → after ≡ cancel p before pivot
    → ComesByCancelling p before after
comes-one p before after pivot is_pivot same = record { history = pivot ∷ []; legal = (is_pivot, tt); replayed = same }

pub comes-both : (p : ℕ) (first second third : Complex) → ComesByCancelling p first second → ComesByCancelling p second third
    → ComesByCancelling p first third
comes-both p first second third before after = grind (arith, nat_tests, legal-append, replay-append)

-- degrees and places stay

pub high-comes : (p : ℕ) (before after : Complex) → ComesByCancelling p before after → high_of after ≡ high_of before
high-comes p before after comes = grind (arith, nat_tests, low-replay, degrees-replay)

pub degrees-comes : (p : ℕ) (before after : Complex) → ComesByCancelling p before after
    → length after.degrees ≡ length before.degrees
degrees-comes p before after comes = grind (arith, nat_tests, degrees-replay)

pub places-comes : (p : ℕ) (before after : Complex) (i : ℤ) → ComesByCancelling p before after
    → place_count after i ≡ place_count before i
places-comes p before after i comes = grind (arith, nat_tests, places-replay)

-- an empty column stays empty

zero_column-cancel : (p : ℕ) (complex : Complex) (pivot : Pivot) (i : ℤ) (row column : ℕ) → IsField p → IsComplex p complex
    → IsPivot complex pivot → ((r : ℕ) → entry_of complex i r column ≡ 0) → entry_of (cancel p complex pivot) i row column ≡ 0
zero_column-cancel p complex pivot i row column field is is_pivot zeros =
    elim (where_is i pivot.degree) [
      | Where.is_at here ↦
          let at : (r : ℕ) → entry_of complex pivot.degree r column ≡ 0 =
          λ r. ap (λ (i : ℤ). entry_of complex i r column) (sym here) ∙ zeros r in
          ap (λ (i : ℤ). entry_of (cancel p complex pivot) i row column) here
          ∙ sym (entry-stays p complex pivot field is is_pivot row column (inl (at pivot.row))) ∙ at row
      | Where.is_after here ↦
          ap (λ (degree : Degree). entry_in degree.matrix row column) (degree-after_pivot p complex pivot i here)
          ∙ entry-without_column pivot.row (degree_of complex i).matrix row column
          ∙ if_zero (nat_eq column pivot.row) (entry_of complex i row column) (zeros row)
      | Where.is_before here ↦
          ap (λ (degree : Degree). entry_in degree.matrix row column) (degree-before_pivot p complex pivot i here)
          ∙ entry-without_row pivot.column (degree_of complex i).matrix row column
          ∙ if_zero (nat_eq row pivot.column) (entry_of complex i row column) (zeros row)
      | Where.is_elsewhere not_here not_after not_before ↦
          ap (λ (degree : Degree). entry_in degree.matrix row column)
          (degree-elsewhere p complex pivot i not_here not_after not_before)
          ∙ zeros row
    ]

empty-cancel : (p : ℕ) (complex : Complex) (pivot : Pivot) (i : ℤ) (column : ℕ) → IsField p → IsComplex p complex
    → IsPivot complex pivot → entries_of (column_of complex i column) ≡ []
    → entries_of (column_of (cancel p complex pivot) i column) ≡ []
empty-cancel p complex pivot i column field is is_pivot empty =
    entries-zeros (column_of (cancel p complex pivot) i column)
    (λ row.
    number-column_of (cancel p complex pivot) i row column
    ∙ zero_column-cancel p complex pivot i row column field is is_pivot
    (λ r. sym (number-column_of complex i r column) ∙ number-none (column_of complex i column) r empty))

empty-replay : (p : ℕ) (complex : Complex) (history : List Pivot) (i : ℤ) (column : ℕ) → IsField p → IsComplex p complex
    → IsLegal p complex history → entries_of (column_of complex i column) ≡ []
    → entries_of (column_of (replay p complex history) i column) ≡ []
empty-replay p complex [] i column field is legal empty = empty
empty-replay p complex (pivot ∷ later) i column field is legal empty =
    empty-replay p (cancel p complex pivot) later i column field (complex-cancel p complex pivot field is legal.0) legal.1
    (empty-cancel p complex pivot i column field is legal.0 empty)

pub empty-comes : (p : ℕ) (before after : Complex) (i : ℤ) (column : ℕ) → IsField p → IsComplex p before
    → ComesByCancelling p before after → entries_of (column_of before i column) ≡ [] → entries_of (column_of after i column) ≡ []
empty-comes p before after i column field is comes empty = grind (arith, nat_tests, empty-replay)

pub complex-comes : (p : ℕ) (before after : Complex) → IsField p → IsComplex p before → ComesByCancelling p before after
    → IsComplex p after
complex-comes p before after field is comes = grind (arith, nat_tests, complex-replay)
