-- The rows of a quantum degree, homological degree by homological degree.
use Rattle.std.proofs.Common.{◌≡◌, ℕ, ◌+◌, ◌*◌, ◌∙◌, List, [], ◌∷◌, ◌++◌, ℤ, pos, ◌-ℤ◌, map, sym, ap, ap₂}
use Rattle.std.specs.List.{filter, range_with_len}
use Rattle.std.proofs.lemmas.Int.{to_z-of_z}
use Rattle.std.proofs.lemmas.List.{append_assoc}
use Rattle.std.proofs.lemmas.List.Elements.{filter-append}
use Rattle.std.proofs.lemmas.Simd.{map-map}
use Rattle.kh_types.specs.Table.{Row, is_shown}
use Rattle.kh_types.proofs.Ranges.{map_from_zero}
use Rattle.homology_tables.specs.DegreeRows.{row_with, rows_with}

-- the rows of the first of these degrees
abbrev pub rows_to : ℕ → ℤ → (ℤ → ℕ) → ℕ → List Row
rows_to n j dims count = filter is_shown (map (λ k. row_with j dims (pos k -ℤ pos n)) (range_with_len 0 count))

-- one row more
pub rows-next : (n : ℕ) (j : ℤ) (dims : ℤ → ℕ) (k : ℕ) (start made next : List Row) (row : Row)
    → made ≡ start ++ rows_to n j dims k → row ≡ row_with j dims (pos k -ℤ pos n) → next ≡ made ++ filter is_shown (row ∷ [])
    → next ≡ start ++ rows_to n j dims (k + 1)
rows-next n j dims k start made next row is_made is_row is_next =
    let number : ℕ → Row = λ k. row_with j dims (pos k -ℤ pos n) in
    let more : rows_to n j dims (k + 1) ≡ rows_to n j dims k ++ filter is_shown (number k ∷ []) =
    ap (filter is_shown) (map_from_zero number k) ∙ filter-append is_shown (map number (range_with_len 0 k)) (number k ∷ []) in
    is_next ∙ ap₂ (λ (xs : List Row) (r : Row). xs ++ filter is_shown (r ∷ [])) is_made is_row
    ∙ append_assoc start (rows_to n j dims k) (filter is_shown (number k ∷ []))
    ∙ ap (λ (xs : List Row). start ++ xs) (sym more)

-- all rows of a quantum degree
pub rows_to-all : (n : ℕ) (j : ℤ) (dims : ℤ → ℕ) (count : ℕ) → count ≡ 2 * n + 1 → rows_to n j dims count ≡ rows_with n j dims
rows_to-all n j dims count all =
    ap (rows_to n j dims) all
    ∙ ap (filter is_shown) (sym (map-map (row_with j dims) (λ k. pos k -ℤ pos n) (range_with_len 0 (2 * n + 1))))

-- a row, seen as that of a dimension
pub row-seen : (dims : ℤ → ℕ) (j is_j i at : ℤ) (dim : ℕ) → j ≡ is_j → i ≡ at → dim ≡ dims i
    → (let row : Row = record { j = j; i = i; dim = dim } in row) ≡ row_with is_j dims at
row-seen dims j is_j i at dim same_j same_i is_dim =
    ap₂ (λ (b : ℤ) (d : ℕ). let row : Row = record { j = b; i = i; dim = d } in row) same_j is_dim ∙ ap (row_with is_j dims) same_i

pub ruleset steps = (rows-next, rows_to-all)

pub ruleset rows = (row-seen, to_z-of_z)
