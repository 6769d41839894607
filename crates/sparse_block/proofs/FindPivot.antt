-- A complex is zero or has a pivot; so it is zero where all its columns are empty.
use Rattle.std.proofs.Common.{◌≡◌, ◌≢◌, ℕ, zero, suc, ◌∙◌, ◌⊎◌, inl, inr, List, [], ◌∷◌, ℤ, pos, ◌+ℤ◌, sym, subst, refl, arith, Bool, true}
use Rattle.std.specs.Prelude.{nat_eq, slice_index, slice_index_or}
use Rattle.std.specs.List.{list_all}
use Rattle.std.proofs.lemmas.Bool.{and_from}
use Rattle.kh_types.specs.Complex.{Complex, Degree, Pivot, IsPivot, empty_degree, entry_in, is_zero}
use Rattle.kh_types.proofs.ComplexLemmas.{degree_of-number}
use Rattle.sparse_block.specs.Complexes.{column_of}
use Rattle.sparse_block.specs.Entries.{entries_of}
use Rattle.sparse_block.proofs.EntryValues.{number-none}
use Rattle.sparse_block.proofs.ReadingLemmas.{number-column_of}

abbrev pub is_zero_matrix : List (List ℕ) → Bool
is_zero_matrix matrix = list_all (λ row. list_all (nat_eq 0) row) matrix

-- a row is all zeros or has another entry at some column, and so a matrix, and so the matrices of degrees
find_column : (row : List ℕ) → (list_all (nat_eq 0) row ≡ true) ⊎ ((column : ℕ) × (slice_index row column ≢ 0))
find_column [] = inl refl
find_column (suc x ∷ row) = inr (0, λ same. omega arith)
find_column (zero ∷ row) =
    elim (find_column row) [
      | inl zeros ↦ inl zeros
      | inr found ↦ inr (suc found.0, found.1)
    ]

find_entry : (matrix : List (List ℕ)) → (is_zero_matrix matrix ≡ true) ⊎ ((row column : ℕ) × (entry_in matrix row column ≢ 0))
find_entry [] = inl refl
find_entry (row ∷ rows) =
    elim (find_column row) [
      | inr found ↦ inr (0, found.0, found.1)
      | inl zeros ↦
          elim (find_entry rows) [
            | inr found ↦ inr (suc found.0, found.1, found.2)
            | inl rest ↦ inl (and_from (list_all (nat_eq 0) row) (is_zero_matrix rows) zeros rest)
          ]
    ]

find_degree : (degrees : List Degree) → (list_all (λ degree. is_zero_matrix degree.matrix) degrees ≡ true)
    ⊎ ((k row column : ℕ) × (entry_in (slice_index_or degrees k empty_degree).matrix row column ≢ 0))
find_degree [] = inl refl
find_degree (degree ∷ degrees) =
    elim (find_entry degree.matrix) [
      | inr found ↦ inr (0, found.0, found.1, found.2)
      | inl zeros ↦
          elim (find_degree degrees) [
            | inr found ↦ inr (suc found.0, found.1, found.2, found.3)
            | inl rest ↦
                inl (and_from (is_zero_matrix degree.matrix) (list_all (λ degree. is_zero_matrix degree.matrix) degrees) zeros rest)
          ]
    ]

pub find_pivot : (complex : Complex) → (is_zero complex ≡ true) ⊎ ((pivot : Pivot) × IsPivot complex pivot)
find_pivot complex =
    elim (find_degree complex.degrees) [
      | inl zeros ↦ inl zeros
      | inr found ↦
          let pivot : Pivot = record { degree = complex.low +ℤ pos found.0; column = found.2; row = found.1 } in
          inr (
            pivot,
            subst (λ degree. entry_in degree.matrix found.1 found.2 ≢ 0) (sym (degree_of-number complex found.0)) found.3,
          )
    ]

-- a complex is zero where all its columns are empty
pub zero-from_columns : (complex : Complex) → ((i : ℤ) (column : ℕ) → entries_of (column_of complex i column) ≡ [])
    → is_zero complex ≡ true
zero-from_columns complex empty =
    elim (find_pivot complex) [
      | inl zeros ↦ zeros
      | inr found ↦
          let pivot = found.0 in
          absurd
          (found.1
          (sym (number-column_of complex pivot.degree pivot.row pivot.column)
          ∙ number-none (column_of complex pivot.degree pivot.column) pivot.row (empty pivot.degree pivot.column)))
    ]
