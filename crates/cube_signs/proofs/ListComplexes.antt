-- Complexes whose places are lists of generators, one for each degree from -n to n, with the coefficients of the cube. Each
-- degree is that of its list, or it is empty beyond n, where the lists are empty too. So in all degrees the places are as many as
-- the list has generators and all alive, the entries are the coefficients from one list to the next, and the rank and the
-- dimension are those of the lists. If the coefficients square to zero over the lists, this is a complex: its rows and columns
-- have the lengths of the lists, its entries are below p, no place is dead, and its products, sums over the middle list, are 0.
use Rattle.std.proofs.lemmas.Bool.Decides.{nat_tests}
use Rattle.std.proofs.Common.{◌≡◌, ℕ, ◌+◌, ◌-◌, ◌*◌, ◌%◌, ◌<◌, ◌≤◌, ◌∙◌, ◌⊎◌, inl, inr, ℤ, pos, negsuc, ◌+ℤ◌, ◌-ℤ◌, List, [], ◌∷◌, length, map, refl, sym, ap, ap₂, arith, true, false}
use Rattle.std.specs.Prelude.{slice_index_or}
use Rattle.std.specs.List.{sum_by, range_with_len}
use Rattle.std.proofs.lemmas.Bool.{cases_lt}
use Rattle.std.proofs.lemmas.Int.{ints}
use Rattle.std.proofs.lemmas.List.{get_or_past, get_or-map, length-map}
use Rattle.std.proofs.lemmas.List.Elements.{All-nil}
use Rattle.kh_types.specs.Code.{Code}
use Rattle.kh_types.specs.Complex.{IsComplex, alive_count, degree_from, degree_number, degree_of, dimension_of, empty_degree, entry_in, entry_of, product_entry}
use Rattle.kh_types.specs.Generators.{Generator}
use Rattle.kh_types.specs.Rank.{rank}
use Rattle.kh_types.specs.Table.{IsWithin, from_minus}
use Rattle.kh_types.proofs.MatrixTests.{entry-past_rows}
use Rattle.kh_types.proofs.QuantumDegrees.{IsWithin-place, place-IsWithin, within_or_not}
use Rattle.kh_types.proofs.RankLemmas.{rank-zeros}
use Rattle.kh_types.proofs.ListSums.{sum_by-alike}
use Rattle.cube_signs.specs.Chosen.{coefficients, list_complex, list_degree}
use Rattle.cube_signs.proofs.ListMatrices.{SquareToZero, coefficients-square, entry-below, entry-column_past, length-coefficients, length-row}
use Rattle.kh_types.proofs.MappedLists.{count-all}
use Rattle.square_laws.proofs.BlockComplexes.{all_alive}
use Rattle.square_laws.proofs.BlockDegrees.{get_or-from_minus, length-from_minus}

-- what the lists have: beyond n they are empty, and the coefficients square to zero
pub record AreLists (p : ℕ) (code : Code) (n : ℕ) (lists : ℤ → List Generator) : Type 0 where
  pub beyond : (i : ℤ) → (IsWithin n i → ⊥) → lists i ≡ []
  pub square : (i : ℤ) → SquareToZero p code (lists i) (lists (i +ℤ pos 1))

-- the dimension at i
abbrev pub list_dimension : ℕ → Code → (ℤ → List Generator) → ℤ → ℕ
list_dimension p code lists i =
    length (lists i) - rank p (coefficients p code (lists i) (lists (i +ℤ pos 1)))
    - rank p (coefficients p code (lists (i -ℤ pos 1)) (lists (i -ℤ pos 1 +ℤ pos 1)))

size-list_complex : (p : ℕ) (code : Code) (n : ℕ) (lists : ℤ → List Generator)
    → length (list_complex p code n lists).degrees ≡ 2 * n + 1
size-list_complex p code n lists = length-map (from_minus n) (list_degree p code lists) ∙ length-from_minus n

degree-numbered : (p : ℕ) (code : Code) (n : ℕ) (lists : ℤ → List Generator) (k : ℕ) → k < 2 * n + 1
    → degree_number (list_complex p code n lists) k ≡ list_degree p code lists (pos k -ℤ pos n)
degree-numbered p code n lists k below =
    get_or-map (list_degree p code lists) (from_minus n) k (pos 0) empty_degree (omega (arith, below, length-from_minus n))
    ∙ ap (list_degree p code lists) (get_or-from_minus n k (pos 0) below)

degree-past : (p : ℕ) (code : Code) (n : ℕ) (lists : ℤ → List Generator) (k : ℕ) → 2 * n + 1 ≤ k
    → degree_number (list_complex p code n lists) k ≡ empty_degree
degree-past p code n lists k past = grind (arith, nat_tests, get_or_past, size-list_complex)

-- each degree is that of its list, or it is empty, beyond n
degree-list_complex : (p : ℕ) (code : Code) (n : ℕ) (lists : ℤ → List Generator) (i : ℤ)
    → (degree_of (list_complex p code n lists) i ≡ list_degree p code lists i)
    ⊎ ((degree_of (list_complex p code n lists) i ≡ empty_degree) × (IsWithin n i → ⊥))
degree-list_complex p code n lists i = elim (within_or_not n i) [
  | inl within ↦
      let place = place-IsWithin n i within in
      let distance : i -ℤ (pos 0 -ℤ pos n) ≡ pos place.0 = omega (arith, ints, place.2) in
      inl (ap (degree_from (list_complex p code n lists)) distance ∙ degree-numbered p code n lists place.0 place.1
      ∙ ap (list_degree p code lists) (sym place.2))
  | inr outside ↦ inr (placed (i -ℤ (pos 0 -ℤ pos n)) refl outside, outside)
]
  where
    placed : (distance : ℤ) → i -ℤ (pos 0 -ℤ pos n) ≡ distance → (IsWithin n i → ⊥)
        → degree_of (list_complex p code n lists) i ≡ empty_degree
    placed (negsuc k) is outside = ap (degree_from (list_complex p code n lists)) is
    placed (pos k) is outside = elim (cases_lt k (2 * n + 1)) [
      | inl below ↦ absurd (outside (IsWithin-place n k i below (omega (arith, ints, is))))
      | inr past ↦ ap (degree_from (list_complex p code n lists)) is ∙ degree-past p code n lists k past
    ]

pub alive-list_complex : (p : ℕ) (code : Code) (n : ℕ) (lists : ℤ → List Generator) (i : ℤ)
    → ((i : ℤ) → (IsWithin n i → ⊥) → lists i ≡ [])
    → (degree_of (list_complex p code n lists) i).alive ≡ map (λ generator. true) (lists i)
alive-list_complex p code n lists i beyond = grind (arith, nat_tests, degree-list_complex)

pub entry-list_complex : (p : ℕ) (code : Code) (n : ℕ) (lists : ℤ → List Generator) (i : ℤ) (row column : ℕ)
    → ((i : ℤ) → (IsWithin n i → ⊥) → lists i ≡ [])
    → entry_of (list_complex p code n lists) i row column
    ≡ entry_in (coefficients p code (lists i) (lists (i +ℤ pos 1))) row column
entry-list_complex p code n lists i row column beyond = grind (arith, nat_tests, degree-list_complex, entry-past_rows, entry-column_past)

pub places-list_complex : (p : ℕ) (code : Code) (n : ℕ) (lists : ℤ → List Generator) (i : ℤ)
    → ((i : ℤ) → (IsWithin n i → ⊥) → lists i ≡ [])
    → length (degree_of (list_complex p code n lists) i).alive ≡ length (lists i)
places-list_complex p code n lists i beyond = grind (arith, nat_tests, alive-list_complex, length-map)

-- the rank of a matrix without columns
pub rank-empty_rows : {X : Type 0} (p : ℕ) (xs : List X) → rank p (map (λ x. []) xs) ≡ 0
rank-empty_rows p [] = refl
rank-empty_rows p (x ∷ xs) = rank-zeros p [] (map (λ x. []) xs) (All-nil (λ n. n ≡ 0)) ∙ rank-empty_rows p xs

pub rank-no_tails : (p : ℕ) (code : Code) (tails heads : List Generator) → tails ≡ [] → rank p (coefficients p code tails heads) ≡ 0
rank-no_tails p code tails heads none =
    ap (λ (xs : List Generator). rank p (coefficients p code xs heads)) none ∙ rank-empty_rows p heads

pub rank-no_heads : (p : ℕ) (code : Code) (tails heads : List Generator) → heads ≡ [] → rank p (coefficients p code tails heads) ≡ 0
rank-no_heads p code tails heads none = ap (λ (xs : List Generator). rank p (coefficients p code tails xs)) none

pub rank-list_complex : (p : ℕ) (code : Code) (n : ℕ) (lists : ℤ → List Generator) (i : ℤ)
    → ((i : ℤ) → (IsWithin n i → ⊥) → lists i ≡ [])
    → rank p (degree_of (list_complex p code n lists) i).matrix ≡ rank p (coefficients p code (lists i) (lists (i +ℤ pos 1)))
rank-list_complex p code n lists i beyond = grind (arith, nat_tests, degree-list_complex, rank-no_tails)

pub alive_count-list_complex : (p : ℕ) (code : Code) (n : ℕ) (lists : ℤ → List Generator) (i : ℤ)
    → ((i : ℤ) → (IsWithin n i → ⊥) → lists i ≡ []) → alive_count (list_complex p code n lists) i ≡ length (lists i)
alive_count-list_complex p code n lists i beyond = grind (arith, nat_tests, alive-list_complex, count-all)

pub dimension_of-list_complex : (p : ℕ) (code : Code) (n : ℕ) (lists : ℤ → List Generator) (i : ℤ)
    → ((i : ℤ) → (IsWithin n i → ⊥) → lists i ≡ [])
    → dimension_of p (list_complex p code n lists) i ≡ list_dimension p code lists i
dimension_of-list_complex p code n lists i beyond = grind (arith, nat_tests, alive_count-list_complex, rank-list_complex)

not_dead : (p : ℕ) (code : Code) (n : ℕ) (lists : ℤ → List Generator) (i : ℤ) (place : ℕ)
    → ((i : ℤ) → (IsWithin n i → ⊥) → lists i ≡ [])
    → slice_index_or (degree_of (list_complex p code n lists) i).alive place true ≡ false → ⊥
not_dead p code n lists i place beyond dead = grind (arith, nat_tests, all_alive, alive-list_complex)

product-list_complex : (p : ℕ) (code : Code) (n : ℕ) (lists : ℤ → List Generator) (i : ℤ) (row column : ℕ) → AreLists p code n lists
    → product_entry p (list_complex p code n lists) i row column ≡ 0
product-list_complex p code n lists i row column are =
    let next = i +ℤ pos 1 in
    let whole = list_complex p code n lists in
    let beyond = are.beyond in
    ap (λ m. sum_by (λ middle. entry_of whole next row middle * entry_of whole i middle column) (range_with_len 0 m) % p)
    (places-list_complex p code n lists next beyond)
    ∙ ap (λ s. s % p)
    (sum_by-alike (λ middle. entry_of whole next row middle * entry_of whole i middle column)
    (λ middle. entry_in (coefficients p code (lists next) (lists (next +ℤ pos 1))) row middle
    * entry_in (coefficients p code (lists i) (lists next)) middle column)
    (λ middle. ap₂ (λ x y. x * y) (entry-list_complex p code n lists next row middle beyond)
    (entry-list_complex p code n lists i middle column beyond))
    (range_with_len 0 (length (lists next))))
    ∙ coefficients-square p code (lists i) (lists next) (lists (next +ℤ pos 1)) row column (are.square i)

-- the number after a degree's number is that of the next degree
degree_of-next : (p : ℕ) (code : Code) (n : ℕ) (lists : ℤ → List Generator) (k : ℕ)
    → degree_of (list_complex p code n lists) (pos k -ℤ pos n +ℤ pos 1) ≡ degree_number (list_complex p code n lists) (k + 1)
degree_of-next p code n lists k = grind (arith, nat_tests)

pub IsComplex-list_complex : (p : ℕ) (code : Code) (n : ℕ) (lists : ℤ → List Generator) → 1 < p → AreLists p code n lists
    → IsComplex p (list_complex p code n lists)
IsComplex-list_complex p code n lists above are =
    let whole = list_complex p code n lists in
    let beyond = are.beyond in
    record {
      rows = λ k within.
          let i = pos k -ℤ pos n in
          ap (λ degree. length degree.matrix)
          (degree-numbered p code n lists k (omega (arith, within, size-list_complex p code n lists)))
          ∙ length-coefficients p code (lists i) (lists (i +ℤ pos 1))
          ∙ sym (places-list_complex p code n lists (i +ℤ pos 1) beyond)
          ∙ ap (λ degree. length degree.alive) (degree_of-next p code n lists k);
      columns = λ k row row_within. elim (cases_lt k (2 * n + 1)) [
        | inl within ↦
            let i = pos k -ℤ pos n in
            let at = degree-numbered p code n lists k within in
            let row_there : row < length (coefficients p code (lists i) (lists (i +ℤ pos 1))) =
            omega (arith, row_within, ap (λ degree. length degree.matrix) at) in
            ap (λ degree. length (slice_index_or degree.matrix row [])) at
            ∙ length-row p code (lists i) (lists (i +ℤ pos 1)) row
            (omega (arith, row_there, length-coefficients p code (lists i) (lists (i +ℤ pos 1))))
            ∙ sym (length-map (lists i) (λ generator. true)) ∙ ap (λ degree. length degree.alive) (sym at)
        | inr past ↦
            absurd (omega (arith, row_within, ap (λ degree. length degree.matrix) (degree-past p code n lists k past)))
      ];
      below = λ i row column.
          omega (
            arith,
            entry-list_complex p code n lists i row column beyond,
            entry-below p code (lists i) (lists (i +ℤ pos 1)) row column above,
          );
      dead_column = λ i row column dead. absurd (not_dead p code n lists i column beyond dead);
      dead_row = λ i row column dead. absurd (not_dead p code n lists (i +ℤ pos 1) row beyond dead);
      product = λ i row column. product-list_complex p code n lists i row column are;
    }
