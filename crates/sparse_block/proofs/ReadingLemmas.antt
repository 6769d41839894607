-- The columns and rows of a complex as lines of numbers, and their entries.
use Rattle.std.proofs.lemmas.Bool.Decides.{nat_tests}
use Rattle.std.proofs.Common.{◌≡◌, ℕ, ◌+◌, ◌<◌, ◌≤◌, ◌∙◌, ◌⊎◌, inl, inr, List, [], ℤ, pos, negsuc, ◌+ℤ◌, ◌-ℤ◌, length, ap, arith}
use Rattle.std.specs.Prelude.{slice_index, All}
use Rattle.std.proofs.Math.ListN as plain
use Rattle.std.proofs.lemmas.Bool.Decides.{leb_tells}
use Rattle.std.proofs.lemmas.Int.{ints}
use Rattle.std.proofs.lemmas.List.{length-map, get_or_past, get_or_default}
use Rattle.kh_types.specs.Complex.{Complex, IsComplex, empty_degree, degree_number, degree_from, degree_of, entry_of}
use Rattle.sparse_block.specs.Entries.{Entry, AreEntries, entries_of}
use Rattle.sparse_block.specs.Complexes.{column_of, row_of, place_count}
use Rattle.sparse_block.proofs.EntryLemmas.{entries-entries_of}

pub number-column_of : (complex : Complex) (i : ℤ) (row column : ℕ)
    → slice_index (column_of complex i column) row ≡ entry_of complex i row column
number-column_of complex i row column =
    plain.get_or-map (λ (row : List ℕ). slice_index row column) (degree_of complex i).matrix row []

-- a longer line may have the same entries
entries-longer : (p size longer : ℕ) (entries : List Entry) → size ≤ longer → AreEntries p size entries → AreEntries p longer entries
entries-longer p size longer entries more are = omega arith

numbers-below : (p : ℕ) (line : List ℕ) → ((k : ℕ) → slice_index line k < p) → All (λ x. x < p) line
numbers-below p line below k d within = omega (arith, get_or_default line k d 0 within, below k)

-- the sizes of a complex, at any degree

numbered : (complex : Complex) (i distance : ℤ) → i -ℤ complex.low ≡ distance
    → (degree_of complex i ≡ empty_degree) ⊎ ((k : ℕ) × (k < length complex.degrees) × (degree_of complex i ≡ degree_number complex k)
    × (degree_of complex (i +ℤ pos 1) ≡ degree_number complex (k + 1)))
numbered complex i (pos k) is_distance =
    elim (leb_tells (length complex.degrees) k) [
      | inl past ↦ inl (ap (degree_from complex) is_distance ∙ get_or_past complex.degrees k empty_degree past.1)
      | inr within ↦
          let next : i +ℤ pos 1 -ℤ complex.low ≡ pos (k + 1) = omega (arith, ints, is_distance) in
          inr (k, within.1, ap (degree_from complex) is_distance, ap (degree_from complex) next)
    ]
numbered complex i (negsuc k) is_distance = inl (ap (degree_from complex) is_distance)

row-count : (p : ℕ) (complex : Complex) (i : ℤ) → IsComplex p complex
    → length (degree_of complex i).matrix ≤ place_count complex (i +ℤ pos 1)
row-count p complex i is_complex = grind (arith, nat_tests, numbered)

row-width : (p : ℕ) (complex : Complex) (i : ℤ) (row : ℕ) → IsComplex p complex → row < length (degree_of complex i).matrix
    → length (row_of complex i row) ≤ place_count complex i
row-width p complex i row is_complex within = grind (arith, nat_tests)

row-length : (p : ℕ) (complex : Complex) (i : ℤ) (row : ℕ) → IsComplex p complex
    → length (row_of complex i row) ≤ place_count complex i
row-length p complex i row is_complex = grind (arith, nat_tests, leb_tells, get_or_past, row-width)

pub column-entries : (p : ℕ) (complex : Complex) (i : ℤ) (column : ℕ) → IsComplex p complex
    → AreEntries p (place_count complex (i +ℤ pos 1)) (entries_of (column_of complex i column))
column-entries p complex i column is_complex =
    let line = column_of complex i column in
    let size = length-map (degree_of complex i).matrix (λ (row : List ℕ). slice_index row column) in
    entries-longer p (length line) (place_count complex (i +ℤ pos 1)) (entries_of line)
    (omega (arith, size, row-count p complex i is_complex))
    (entries-entries_of p line
    (numbers-below p line
    (λ row. omega (arith, number-column_of complex i row column, is_complex.below i row column))))

pub row-entries : (p : ℕ) (complex : Complex) (i : ℤ) (row : ℕ) → IsComplex p complex
    → AreEntries p (place_count complex i) (entries_of (row_of complex i row))
row-entries p complex i row is_complex =
    let line = row_of complex i row in
    entries-longer p (length line) (place_count complex i) (entries_of line) (row-length p complex i row is_complex)
    (entries-entries_of p line (numbers-below p line (is_complex.below i row)))
