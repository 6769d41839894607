-- The worked matrix, column by column: three pivots, and nothing left of the fourth column.
use Rattle.std.proofs.Common.{◌≡◌, ℕ, zero, suc, ◌+◌, ◌<◌, List, [], ◌∷◌, pos, refl, arith}
use Rattle.kh_types.specs.Complex.{Complex, IsComplex, cancel, entry_of, pivot_at}
use Rattle.kh_types.specs.Residues.{Same}
use Rattle.kh_types.proofs.ComplexLemmas.{complex-from_test}
use Rattle.prime_field.specs.SmallFields.{field-three}
use Rattle.column_reduction.specs.Reductions.{ReducedColumn, IsLineBelow, AreReduced, EndsAt, IsLeftOf, combination, column_numbers, with_column}
use Rattle.column_reduction.specs.WorkedColumns.{numbers, three_columns, three_rows, three_rows_after}
use Rattle.column_reduction.proofs.Steps.{reduced-none, reduced-nothing, reduced-pivot}

pub complex-three_rows : IsComplex 3 three_rows
complex-three_rows = complex-from_test 3 three_rows (omega arith) refl

by_rows : (P : ℕ → Type 0) → P 0 → P 1 → P 2 → ((row : ℕ) → P (suc (suc (suc row)))) → (row : ℕ) → P row
by_rows P first second third rest zero = first
by_rows P first second third rest (suc zero) = second
by_rows P first second third rest (suc (suc zero)) = third
by_rows P first second third rest (suc (suc (suc row))) = rest row

-- the first column as it is, which ends at row 1
first_left : IsLeftOf 3 [] (column_numbers three_rows (pos 0) 0) (numbers (1 ∷ 1 ∷ []))
first_left =
    record {
      factor = λ at. 0;
      sum = by_rows
          (λ row. Same 3 (entry_of three_rows (pos 0) row 0) (numbers (1 ∷ 1 ∷ []) row + combination (λ at. 0) [] row)) refl refl
          refl (λ row. refl);
    }

first_below : IsLineBelow 3 (numbers (1 ∷ 1 ∷ []))
first_below = by_rows (λ row. numbers (1 ∷ 1 ∷ []) row < 3) (omega arith) (omega arith) (omega arith) (λ row. omega arith)

first_ends : EndsAt 1 (numbers (1 ∷ 1 ∷ []))
first_ends =
    record {
      other = λ same. omega arith;
      zeros = by_rows (λ row. 1 < row → numbers (1 ∷ 1 ∷ []) row ≡ 0) (λ later. absurd (omega (arith, later)))
          (λ later. absurd (omega (arith, later))) (λ later. refl) (λ row later. refl);
    }

abbrev one_column : List ReducedColumn
one_column = with_column [] 0 1 (numbers (1 ∷ 1 ∷ []))

abbrev after_one : Complex
after_one = cancel 3 three_rows (pivot_at (pos 0) 0 1)

reduced-one : AreReduced 3 three_rows (pos 0) 1 one_column after_one
reduced-one =
    reduced-pivot 3 three_rows three_rows (pos 0) 0 [] field-three complex-three_rows (reduced-none 3 three_rows (pos 0))
    (numbers (1 ∷ 1 ∷ [])) first_left 1 first_below first_ends refl

-- the second too, which ends at row 2
second_left : IsLeftOf 3 one_column (column_numbers three_rows (pos 0) 1) (numbers (2 ∷ 0 ∷ 1 ∷ []))
second_left =
    record {
      factor = λ at. 0;
      sum = by_rows
          (λ row. Same 3 (entry_of three_rows (pos 0) row 1)
          (numbers (2 ∷ 0 ∷ 1 ∷ []) row + combination (λ at. 0) one_column row))
          refl refl refl (λ row. refl);
    }

second_below : IsLineBelow 3 (numbers (2 ∷ 0 ∷ 1 ∷ []))
second_below =
    by_rows (λ row. numbers (2 ∷ 0 ∷ 1 ∷ []) row < 3) (omega arith) (omega arith) (omega arith) (λ row. omega arith)

second_ends : EndsAt 2 (numbers (2 ∷ 0 ∷ 1 ∷ []))
second_ends =
    record {
      other = λ same. omega arith;
      zeros = by_rows (λ row. 2 < row → numbers (2 ∷ 0 ∷ 1 ∷ []) row ≡ 0) (λ later. absurd (omega (arith, later)))
          (λ later. absurd (omega (arith, later))) (λ later. absurd (omega (arith, later))) (λ row later. refl);
    }

abbrev two_columns : List ReducedColumn
two_columns = with_column one_column 1 2 (numbers (2 ∷ 0 ∷ 1 ∷ []))

abbrev after_two : Complex
after_two = cancel 3 after_one (pivot_at (pos 0) 1 2)

reduced-two : AreReduced 3 three_rows (pos 0) 2 two_columns after_two
reduced-two =
    reduced-pivot 3 three_rows after_one (pos 0) 1 one_column field-three complex-three_rows reduced-one
    (numbers (2 ∷ 0 ∷ 1 ∷ [])) second_left 2 second_below second_ends refl

-- the third is 2 0 0, the second, and twice the first
third_left : IsLeftOf 3 two_columns (column_numbers three_rows (pos 0) 2) (numbers (2 ∷ []))
third_left =
    record {
      factor = numbers (0 ∷ 2 ∷ 1 ∷ []);
      sum = by_rows
          (λ row. Same 3 (entry_of three_rows (pos 0) row 2)
          (numbers (2 ∷ []) row + combination (numbers (0 ∷ 2 ∷ 1 ∷ [])) two_columns row))
          refl refl refl (λ row. refl);
    }

third_below : IsLineBelow 3 (numbers (2 ∷ []))
third_below = by_rows (λ row. numbers (2 ∷ []) row < 3) (omega arith) (omega arith) (omega arith) (λ row. omega arith)

third_ends : EndsAt 0 (numbers (2 ∷ []))
third_ends =
    record {
      other = λ same. omega arith;
      zeros = by_rows (λ row. 0 < row → numbers (2 ∷ []) row ≡ 0) (λ later. absurd (omega (arith, later))) (λ later. refl)
          (λ later. refl) (λ row later. refl);
    }

reduced-three : AreReduced 3 three_rows (pos 0) 3 three_columns three_rows_after
reduced-three =
    reduced-pivot 3 three_rows after_two (pos 0) 2 two_columns field-three complex-three_rows reduced-two
    (numbers (2 ∷ [])) third_left 0 third_below third_ends refl

-- of the fourth nothing is left: it is the first and the second
fourth_left : IsLeftOf 3 three_columns (column_numbers three_rows (pos 0) 3) (λ row. 0)
fourth_left =
    record {
      factor = numbers (0 ∷ 1 ∷ 1 ∷ []);
      sum = by_rows
          (λ row. Same 3 (entry_of three_rows (pos 0) row 3)
          (0 + combination (numbers (0 ∷ 1 ∷ 1 ∷ [])) three_columns row))
          refl refl refl (λ row. refl);
    }

pub reduced-four : AreReduced 3 three_rows (pos 0) 4 three_columns three_rows_after
reduced-four =
    reduced-nothing 3 three_rows three_rows_after (pos 0) 3 three_columns field-three complex-three_rows reduced-three
    (λ row. 0) fourth_left (λ row. refl)
