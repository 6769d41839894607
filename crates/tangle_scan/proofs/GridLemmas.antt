-- Where a grid has two degrees, and what is added there.
use Rattle.std.proofs.Common.{◌≡◌, ℕ, suc, inl, inr, ◌+◌, ◌-◌, ◌*◌, ◌/◌, ◌%◌, ◌<◌, ◌≤◌, ◌^◌, ◌∙◌, List, ℤ, pos, negsuc, ◌+ℤ◌, length, refl, subst, sym, ap, ap₂, arith, Bool, true, false, cond, ◌&&◌}
use Rattle.std.specs.Prelude.{nat_le, slice_index, slice_set}
use Rattle.std.specs.Int.RustNames.{unsigned_abs}
use Rattle.std.specs.List.{filter, flat_map}
use Rattle.std.specs.Ordering.{int_eq}
use Rattle.std.proofs.lemmas.Bool.{and_parts, cases_Bool, cases_eq, false≢true, le-leb, leb-true}
use Rattle.std.proofs.lemmas.Bool.Decides.{Decides-int_eq}
use Rattle.std.proofs.lemmas.Int.{ints}
use Rattle.std.proofs.lemmas.List.{get_or-set_other, get_or-set_same}
use Rattle.std.proofs.lemmas.List.Folds.{flat_map-map}
use Rattle.std.proofs.lemmas.Nat.{div-mul-add, mod-mul-add, mul-add-lt}
use Rattle.kh_types.specs.Table.{IsWithin, Row, from_minus, is_shown}
use Rattle.kh_types.specs.declared.limits.TheConstants.{EXPONENT}
use Rattle.kh_types.proofs.Integers.{int_eq-same}
use Rattle.kh_types.proofs.QuantumDegrees.{map-from_minus_agree, place-IsWithin}
use Rattle.union_laws.specs.UnitedRows.{row_product}
use Rattle.tangle_scan.specs.declared.scanning.products.Grid.{Grid}
use Rattle.tangle_scan.specs.CountedRows.{all_rows_by, row_by, rows_by}
use Rattle.tangle_scan.specs.Grids.{AreRaised, HasRoom, dims_in, is_in, number_at, place_in}

-- a degree within a size has a place from 0
shifted : (most : ℕ) (i : ℤ) → nat_le (unsigned_abs i) most ≡ true → (m : ℕ) × (m < 2 * most + 1) × (i +ℤ pos most ≡ pos m)
shifted most (pos a) small =
    let within = leb-true a most small in (a + most, omega (arith, within), omega (arith, ints))
shifted most (negsuc a) small =
    let within = leb-true (suc a) most small in (most - suc a, omega (arith, within), omega (arith, ints, within))

within-small : (n : ℕ) (i : ℤ) → IsWithin n i → nat_le (unsigned_abs i) n ≡ true
within-small n (pos a) within =
    let place = place-IsWithin n (pos a) within in le-leb a n (omega (arith, ints, place.1, place.2))
within-small n (negsuc a) within =
    let place = place-IsWithin n (negsuc a) within in le-leb (suc a) n (omega (arith, ints, place.1, place.2))

module _ (n : ℕ) (i j : ℤ) (here : is_in n i j ≡ true) where
  column : (m : ℕ) × (m < 2 * n + 1) × (i +ℤ pos n ≡ pos m)
  column = shifted n i (and_parts _ _ here).0

  row : (m : ℕ) × (m < 2 * EXPONENT + 1) × (j +ℤ pos EXPONENT ≡ pos m)
  row = shifted EXPONENT j (and_parts _ _ here).1

  place_in-is : place_in n i j ≡ row.0 * (2 * n + 1) + column.0
  place_in-is = ap₂ (λ (a b : ℤ). unsigned_abs a * (2 * n + 1) + unsigned_abs b) row.2 column.2

  pub place_in-below : place_in n i j < (2 * EXPONENT + 1) * (2 * n + 1)
  place_in-below =
      let below = mul-add-lt row.0 (2 * n + 1) column.0 (2 * EXPONENT + 1) row.1 column.1 in
      omega (arith, place_in-is, below)

-- no two have one place
same_shift : (i k : ℤ) (n a b : ℕ) → i +ℤ pos n ≡ pos a → k +ℤ pos n ≡ pos b → a ≡ b → i ≡ k
same_shift i k n a b is_a is_b same = omega (arith, ints, is_a, is_b, same)

place_in-one : (n : ℕ) (i j k l : ℤ) → is_in n i j ≡ true → is_in n k l ≡ true → place_in n i j ≡ place_in n k l → (i ≡ k) × (j ≡ l)
place_in-one n i j k l here there same =
    let w = 2 * n + 1 in
    let a = column n i j here in
    let b = row n i j here in
    let c = column n k l there in
    let d = row n k l there in
    let flat : b.0 * w + a.0 ≡ d.0 * w + c.0 = sym (place_in-is n i j here) ∙ same ∙ place_in-is n k l there in
    let columns : a.0 ≡ c.0 = sym (mod-mul-add b.0 w a.0 a.1) ∙ ap (λ (x : ℕ). x % w) flat ∙ mod-mul-add d.0 w c.0 c.1 in
    let rows : b.0 ≡ d.0 = sym (div-mul-add b.0 w a.0 a.1) ∙ ap (λ (x : ℕ). x / w) flat ∙ div-mul-add d.0 w c.0 c.1 in
    (same_shift i k n a.0 c.0 a.2 c.2 columns, same_shift j l EXPONENT b.0 d.0 b.2 d.2 rows)

-- a number at two degrees is 0 at others
number_at-same : (i j : ℤ) (number : ℕ) (k l : ℤ) → i ≡ k → j ≡ l → number_at i j number k l ≡ number
number_at-same i j number k l same_i same_j =
    ap₂ (λ (s t : Bool). cond (s && t) number 0) (int_eq-same i k same_i) (int_eq-same j l same_j)

number_at-other : (i j : ℤ) (number : ℕ) (k l : ℤ) → ((i ≡ k) × (j ≡ l) → ⊥) → number_at i j number k l ≡ 0
number_at-other i j number k l other = elim (cases_Bool (int_eq i k && int_eq j l)) [
  | inl is ↦ absurd (other ((Decides-int_eq i k).0 (and_parts _ _ is).0, (Decides-int_eq j l).0 (and_parts _ _ is).1))
  | inr is_not ↦ ap (λ (b : Bool). cond b number 0) is_not
]

pub number_at-outside : (n : ℕ) (i j : ℤ) (number : ℕ) (k l : ℤ) → is_in n i j ≡ false → is_in n k l ≡ true → number_at i j number k l ≡ 0
number_at-outside n i j number k l outside there =
    number_at-other i j number k l
    (λ same. false≢true (sym outside ∙ ap₂ (λ (x y : ℤ). is_in n x y) same.0 same.1 ∙ there))

-- the numbers of a list at two degrees
abbrev pub dims_by : ℕ → List ℕ → ℤ → ℤ → ℕ
dims_by n numbers i j = cond (is_in n i j) (slice_index numbers (place_in n i j)) 0

-- a number more at two degrees
pub number-added : (n : ℕ) (numbers : List ℕ) (i j : ℤ) (number : ℕ) (k l : ℤ) → is_in n i j ≡ true → is_in n k l ≡ true
    → place_in n i j < length numbers
    → dims_by n (slice_set numbers (place_in n i j) (slice_index numbers (place_in n i j) + number)) k l
    ≡ dims_by n numbers k l + number_at i j number k l
number-added n numbers i j number k l here there below =
    let place = place_in n i j in
    let other = place_in n k l in
    let raised = slice_index numbers place + number in
    let seen = λ (numbers : List ℕ). ap (λ (b : Bool). cond b (slice_index numbers other) 0) there in
    elim (cases_eq place other) [
      | inl same ↦
          let both = place_in-one n i j k l here there same in
          let read : slice_index (slice_set numbers place raised) other ≡ raised =
          ap (slice_index (slice_set numbers place raised)) (sym same) ∙ get_or-set_same numbers place raised 0 below in
          let at : slice_index numbers place ≡ slice_index numbers other = ap (slice_index numbers) same in
          let shown = number_at-same i j number k l both.0 both.1 in
          seen (slice_set numbers place raised)
          ∙ omega (arith, read, at, shown, seen numbers)
      | inr differs ↦
          let read : slice_index (slice_set numbers place raised) other ≡ slice_index numbers other =
          get_or-set_other numbers place other raised 0 (λ same. differs (sym same)) in
          let shown = number_at-other i j number k l (λ both. differs (ap₂ (λ (x y : ℤ). place_in n x y) both.0 both.1)) in
          seen (slice_set numbers place raised)
          ∙ omega (arith, read, shown, seen numbers)
    ]

-- two rows give their product at the sums of their degrees
pub row_product-self : (row other : Row) → row_product (row.i +ℤ other.i) (row.j +ℤ other.j) row other ≡ row.dim * other.dim
row_product-self row other =
    number_at-same (row.i +ℤ other.i) (row.j +ℤ other.j) (row.dim * other.dim) (row.i +ℤ other.i) (row.j +ℤ other.j) refl refl

-- the same number at the same degrees
pub room-moved : (grid : Grid) (i j k l : ℤ) (m n : ℕ) → i ≡ k → j ≡ l → m ≡ n → dims_in grid k l + n < 2 ^ 128
    → dims_in grid i j + m < 2 ^ 128
room-moved grid i j k l m n same_i same_j same fits = omega (arith, ap₂ (dims_in grid) same_i same_j, same, fits)

pub raised-moved : (old new : Grid) (i j k l : ℤ) (m n : ℕ) → i ≡ k → j ≡ l → m ≡ n → AreRaised (number_at i j m) old new
    → AreRaised (number_at k l n) old new
raised-moved old new i j k l m n same_i same_j same raised =
    subst (λ (number : ℕ). AreRaised (number_at k l number) old new) same
    (subst (λ (other : ℤ). AreRaised (number_at k other m) old new) same_j
    (subst (λ (other : ℤ). AreRaised (number_at other j m) old new) same_i raised))

-- where numbers can be added, the rest of them can behind some
pub room-left : (dims part step : ℤ → ℤ → ℕ) (old now : Grid) → HasRoom dims old → AreRaised part old now
    → ((i j : ℤ) → part i j + step i j ≤ dims i j) → HasRoom step now
room-left dims part step old now room raised fits = λ i j. elim (cases_Bool (is_in old.crossings i j)) [
  | inl here ↦ omega (arith, raised.numbers i j here, room i j, fits i j)
  | inr outside ↦ omega (arith, nothing i j outside, room i j, fits i j)
]
  where
    nothing : (i j : ℤ) → is_in old.crossings i j ≡ false → dims_in now i j ≡ 0
    nothing i j outside =
        ap (λ (b : Bool). cond b (slice_index now.numbers.items (place_in now.crossings i j)) 0)
        (ap (λ (n : ℕ). is_in n i j) raised.crossings ∙ outside)

-- rows are known by the numbers of a grid
pub all_rows-agree : (f g : ℤ → ℤ → ℕ) (n : ℕ) → ((i j : ℤ) → is_in n i j ≡ true → f i j ≡ g i j) → all_rows_by f n ≡ all_rows_by g n
all_rows-agree f g n same =
    sym (flat_map-map (λ (rows : List Row). rows) (rows_by f n) (from_minus EXPONENT))
    ∙ ap (λ (all : List (List Row)). flat_map (λ (rows : List Row). rows) all)
    (map-from_minus_agree (rows_by f n) (rows_by g n) EXPONENT rows)
    ∙ flat_map-map (λ (rows : List Row). rows) (rows_by g n) (from_minus EXPONENT)
  where
    row_of : ℤ → ℤ → ℕ → Row
    row_of j i d = record { j = j; i = i; dim = d }

    rows : (j : ℤ) → IsWithin EXPONENT j → rows_by f n j ≡ rows_by g n j
    rows j j_within =
        ap (filter is_shown)
        (map-from_minus_agree (row_by f j) (row_by g j) n
        (λ i i_within. ap (row_of j i)
        (same i j (ap₂ (λ (s t : Bool). s && t) (within-small n i i_within) (within-small EXPONENT j j_within)))))
