-- Worked cells: two of degree 0 and two of degree 1.
use Rattle.std.specs.Prelude.{ℕ, ◌/◌, pos, [], ◌∷◌, slice_index, slice_index_or}
use Rattle.cell_laws.specs.Cells.{Cells}

-- the coefficients modulo 3 from a cell to another: in the list of each cell, by the other
abbrev pub four_coefficients : ℕ → ℕ → ℕ
four_coefficients tail head = slice_index (slice_index_or ((0 ∷ 0 ∷ 2 ∷ 1 ∷ []) ∷ (0 ∷ 0 ∷ 1 ∷ 1 ∷ []) ∷ []) tail []) head

-- the cells 0 to 3, of which the first two have the homological degree 0, the others 1
abbrev pub four_cells : Cells ℕ
four_cells = record {
  list = 0 ∷ 1 ∷ 2 ∷ 3 ∷ [];
  homological = λ cell. pos (cell / 2);
  quantum = λ cell. pos 0;
  coefficient = four_coefficients;
}
