-- The last entry of a column, and complexes whose columns are empty.
use Rattle.std.proofs.lemmas.Bool.Decides.{nat_tests, leb_tells}
use Rattle.std.proofs.Common.{◌≡◌, ◌≢◌, ℕ, ◌<◌, ◌∙◌, inl, inr, [], ℤ, pos, ◌+ℤ◌, ◌-ℤ◌, ◌≤ℤ◌, length, get_or, ap, sym, arith, true}
use Rattle.std.proofs.lemmas.Int.{ints}
use Rattle.kh_types.specs.Complex.{Complex, IsComplex, entry_of, is_zero}
use Rattle.sparse_block.specs.Complexes.{column_of, high_of, place_count}
use Rattle.sparse_block.specs.Entries.{Entry, entries_of}
use Rattle.sparse_block.proofs.ReadingLemmas.{column-entries, number-column_of}
use Rattle.sparse_block.proofs.PastLemmas.{column-past, degree-from_place}
use Rattle.sparse_block.proofs.EntryValues.{entry-of_line}
use Rattle.sparse_block.proofs.FindPivot.{zero-from_columns}

-- the last entry of a column is one of the complex
pub last-entry : (p : ℕ) (complex : Complex) (i : ℤ) (column k : ℕ) (d : Entry) → IsComplex p complex
    → k < length (entries_of (column_of complex i column))
    → entry_of complex i (get_or (entries_of (column_of complex i column)) k d).place column ≢ 0
last-entry p complex i column k d is within none =
    let line = column_of complex i column in
    let size = place_count complex (i +ℤ pos 1) in
    let at = entry-of_line p size k line d (column-entries p complex i column is) within in
    let row = (get_or (entries_of line) k d).place in
    at.other (sym at.value ∙ number-column_of complex i row column ∙ none)

-- and where those of its degrees are, counted from the greatest down

count-from_integer : (x : ℤ) → pos 0 ≤ℤ x → (n : ℕ) × (x ≡ pos n)
count-from_integer x from = grind (arith, nat_tests)

-- the columns of the first degrees, from the greatest down, are empty
abbrev pub AreEmptyDown : Complex → ℕ → Type 0
AreEmptyDown complex count =
    (number : ℕ) → number < count → (column : ℕ) → entries_of (column_of complex (high_of complex -ℤ pos number) column) ≡ []

pub zero-from_degrees : (p : ℕ) (complex : Complex) → IsComplex p complex → AreEmptyDown complex (length complex.degrees)
    → is_zero complex ≡ true
zero-from_degrees p complex is empty = zero-from_columns complex at
  where
    at : (i : ℤ) (column : ℕ) → entries_of (column_of complex i column) ≡ []
    at i column =
        elim (leb_tells (place_count complex i) column) [
          | inl past ↦ column-past p complex i column is past.1
          | inr within ↦
              let degree = degree-from_place complex i column within.1 in
              let above = count-from_integer (high_of complex -ℤ i) (omega (arith, ints, degree.high)) in
              let number : ℕ = above.0 in
              let is_degree : i ≡ high_of complex -ℤ pos number = omega (arith, ints, above.1) in
              ap (λ (i : ℤ). entries_of (column_of complex i column)) is_degree
              ∙ empty number (omega (arith, ints, above.1, degree.low)) column
        ]
