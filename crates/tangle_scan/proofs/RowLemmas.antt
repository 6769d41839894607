-- The rows of what some objects count, homological degree by homological degree and quantum degree by quantum degree.
use Rattle.std.proofs.Common.{◌≡◌, ℕ, ◌+◌, ◌*◌, ◌∙◌, List, [], ◌∷◌, ◌++◌, ℤ, pos, ◌-ℤ◌, map, refl, sym, ap, ap₂, arith}
use Rattle.std.specs.List.{filter, flat_map, range_with_len}
use Rattle.std.proofs.lemmas.List.{append_assoc}
use Rattle.std.proofs.lemmas.List.Elements.{filter-append}
use Rattle.std.proofs.lemmas.Simd.{map-map}
use Rattle.kh_types.specs.Table.{Row, is_shown}
use Rattle.kh_types.specs.declared.limits.TheConstants.{EXPONENT}
use Rattle.kh_types.proofs.Ranges.{flat_map-range_more, map_from_zero}
use Rattle.tangle_scan.specs.CountedRows.{all_rows_by, row_by, rows_by}

module _ (dims : ℤ → ℤ → ℕ) (n : ℕ) where
  -- the row of the homological degree at a place of those from -n to n
  abbrev pub row_number : ℤ → ℕ → Row
  row_number j k = row_by dims j (pos k -ℤ pos n)

  -- the rows of the first of these degrees
  abbrev pub rows_to : ℤ → ℕ → List Row
  rows_to j count = filter is_shown (map (row_number j) (range_with_len 0 count))

  -- and those of the first quantum degrees
  abbrev pub rows_of_place : ℕ → List Row
  rows_of_place place = rows_by dims n (pos place -ℤ pos EXPONENT)

  abbrev pub all_rows_to : ℕ → List Row
  all_rows_to count = flat_map rows_of_place (range_with_len 0 count)

  rows_to-more : (j : ℤ) (k : ℕ) → rows_to j (k + 1) ≡ rows_to j k ++ filter is_shown (row_number j k ∷ [])
  rows_to-more j k =
      ap (filter is_shown) (map_from_zero (row_number j) k)
      ∙ filter-append is_shown (map (row_number j) (range_with_len 0 k)) (row_number j k ∷ [])

  pub rows-next : (j : ℤ) (k : ℕ) (start made next : List Row) (row : Row) → made ≡ start ++ rows_to j k → row ≡ row_number j k
      → next ≡ made ++ filter is_shown (row ∷ []) → next ≡ start ++ rows_to j (k + 1)
  rows-next j k start made next row is_made is_row is_next =
      is_next ∙ ap₂ (λ (xs : List Row) (r : Row). xs ++ filter is_shown (r ∷ [])) is_made is_row
      ∙ append_assoc start (rows_to j k) (filter is_shown (row_number j k ∷ []))
      ∙ ap (λ (xs : List Row). start ++ xs) (sym (rows_to-more j k))

  pub rows_to-all : (j : ℤ) (count : ℕ) → count ≡ 2 * n + 1 → rows_to j count ≡ rows_by dims n j
  rows_to-all j count all =
      ap (rows_to j) all
      ∙ ap (filter is_shown) (sym (map-map (row_by dims j) (λ k. pos k -ℤ pos n) (range_with_len 0 (2 * n + 1))))

  pub all-next : (j : ℤ) (place : ℕ) (made next : List Row) → made ≡ all_rows_to place → j ≡ pos place -ℤ pos EXPONENT
      → next ≡ made ++ rows_by dims n j → next ≡ all_rows_to (place + 1)
  all-next j place made next is_made is_j is_next =
      is_next ∙ ap₂ (λ (xs : List Row) (at : ℤ). xs ++ rows_by dims n at) is_made is_j
      ∙ sym (flat_map-range_more rows_of_place 0 place place (omega arith))

  pub all_rows_to-all : (count : ℕ) → count ≡ 2 * EXPONENT + 1 → all_rows_to count ≡ all_rows_by dims n
  all_rows_to-all count all = ap all_rows_to all ∙ sym (spread (rows_by dims n) (λ k. pos k -ℤ pos EXPONENT) (range_with_len 0 (2 * EXPONENT + 1)))
    where
      spread : {X Y Z : Type 0} (f : Y → List Z) (g : X → Y) (xs : List X) → flat_map f (map g xs) ≡ flat_map (λ x. f (g x)) xs
      spread f g [] = refl
      spread {X} {Y} {Z} f g (x ∷ xs) = ap (λ (zs : List Z). f (g x) ++ zs) (spread f g xs)

pub ruleset steps = (rows-next, rows_to-all)

pub ruleset all_steps = (all-next, all_rows_to-all)
