-- Nothing stands past the places of a complex: its columns and rows are empty there.
use Rattle.std.proofs.lemmas.Bool.Decides.{nat_tests}
use Rattle.std.proofs.Common.{◌≡◌, ◌≢◌, ℕ, suc, ◌+◌, ◌<◌, ◌≤◌, ◌∙◌, inl, inr, List, [], ◌∷◌, ℤ, pos, negsuc, ◌+ℤ◌, ◌-ℤ◌, ◌≤ℤ◌, length, ap, refl, arith}
use Rattle.std.specs.Prelude.{slice_index}
use Rattle.std.proofs.lemmas.Bool.Decides.{leb_tells}
use Rattle.std.proofs.lemmas.Int.{ints}
use Rattle.std.proofs.lemmas.List.{get_or_past}
use Rattle.kh_types.specs.Complex.{Complex, Degree, IsComplex, empty_degree, degree_from, entry_of}
use Rattle.sparse_block.specs.Complexes.{column_of, high_of, place_count, row_of}
use Rattle.sparse_block.specs.Entries.{entries_from, entries_of}
use Rattle.sparse_block.proofs.ComplexMatrices.{entry-stands}
use Rattle.sparse_block.proofs.EntryLemmas.{entries_from-zero}
use Rattle.sparse_block.proofs.ReadingLemmas.{number-column_of}

-- a line of zeros has no entries

pub entries_from-zeros : (a : ℕ) (xs : List ℕ) → ((k : ℕ) → slice_index xs k ≡ 0) → entries_from a xs ≡ []
entries_from-zeros a [] zeros = refl
entries_from-zeros a (x ∷ xs) zeros =
    entries_from-zero a x xs (zeros 0) ∙ entries_from-zeros (a + 1) xs (λ k. zeros (suc k))

pub entries-zeros : (xs : List ℕ) → ((k : ℕ) → slice_index xs k ≡ 0) → entries_of xs ≡ []
entries-zeros xs zeros = entries_from-zeros 0 xs zeros

-- a number that cannot be other than 0
zero-unless : (x : ℕ) → (x ≢ 0 → ⊥) → x ≡ 0
zero-unless x never = grind (arith, nat_tests)

-- there is nothing past the places

pub column-past : (p : ℕ) (complex : Complex) (i : ℤ) (place : ℕ) → IsComplex p complex → place_count complex i ≤ place
    → entries_of (column_of complex i place) ≡ []
column-past p complex i place is past = grind (arith, nat_tests, entries-zeros, number-column_of, zero-unless, entry-stands)

pub row-past : (p : ℕ) (complex : Complex) (i : ℤ) (place : ℕ) → IsComplex p complex → place_count complex (i +ℤ pos 1) ≤ place
    → entries_of (row_of complex i place) ≡ []
row-past p complex i place is past = grind (arith, nat_tests, entries-zeros, zero-unless, entry-stands)

-- a degree with a place is one of the complex
pub record IsDegree (complex : Complex) (i : ℤ) : Type 0 where
  pub low : complex.low ≤ℤ i
  pub high : i ≤ℤ high_of complex

degree-from_distance : (complex : Complex) (i distance : ℤ) → i -ℤ complex.low ≡ distance
    → 0 < length (degree_from complex distance).alive → IsDegree complex i
degree-from_distance complex i (pos k) is_distance some =
    elim (leb_tells (length complex.degrees) k) [
      | inl past ↦
          absurd
          (omega (
            arith,
            some,
            ap (λ (degree : Degree). length degree.alive) (get_or_past complex.degrees k empty_degree past.1),
          ))
      | inr within ↦ record { low = omega (arith, ints, is_distance); high = omega (arith, ints, is_distance, within.1) }
    ]
degree-from_distance complex i (negsuc k) is_distance some = absurd (omega arith)

pub degree-from_place : (complex : Complex) (i : ℤ) (place : ℕ) → place < place_count complex i → IsDegree complex i
degree-from_place complex i place within = degree-from_distance complex i (i -ℤ complex.low) refl (omega (arith, within))

pub places-outside : (complex : Complex) (i : ℤ) → (IsDegree complex i → ⊥) → place_count complex i ≡ 0
places-outside complex i outside =
    zero-unless (place_count complex i)
    (λ some. outside (degree-from_place complex i 0 (omega (arith, some))))

pub row-outside : (p : ℕ) (complex : Complex) (i : ℤ) (place : ℕ) → IsComplex p complex → (IsDegree complex i → ⊥)
    → entries_of (row_of complex i place) ≡ []
row-outside p complex i place is outside =
    entries-zeros (row_of complex i place)
    (λ column. zero-unless (entry_of complex i place column)
    (λ other. outside (degree-from_place complex i column (entry-stands p complex i place column is other).column_place)))
