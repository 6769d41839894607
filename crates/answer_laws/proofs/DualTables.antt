-- The table of a mirror is the table of the code, turned round.
use Rattle.std.proofs.Common.{◌≡◌, ℕ, ◌+◌, ◌-◌, ◌*◌, ◌<◌, ◌∙◌, List, [], ◌∷◌, ◌++◌, length, map, cond, ℤ, pos, neg_ℤ, ◌-ℤ◌, Bool, true, false, refl, sym, ap, arith}
use Rattle.std.specs.Prelude.{reverse}
use Rattle.std.specs.List.{filter, flat_map}
use Rattle.std.proofs.Math.Path.{fun_ext}
use Rattle.std.proofs.lemmas.Grind.{flat_map-append}
use Rattle.std.proofs.lemmas.Int.{ints}
use Rattle.std.proofs.lemmas.List.{append-nil, ext_get_or, get_or-map, get_or-reverse, length-map, length-reverse, map-append, reverse-append, reverse-reverse}
use Rattle.std.proofs.lemmas.List.Elements.{filter-append}
use Rattle.std.proofs.lemmas.List.Folds.{flat_map-map}
use Rattle.std.proofs.lemmas.List.FromFn.{get_or-map-range_with_len, length-map-range_with_len}
use Rattle.std.proofs.lemmas.Simd.{map-map}
use Rattle.kh_types.specs.Code.{Code}
use Rattle.kh_types.specs.Table.{Row, dimension, from_minus, is_shown, row_at, rows_at, table}
use Rattle.kh_types.specs.declared.limits.TheConstants.{EXPONENT}
use Rattle.answer_laws.specs.Shown.{dual_table, opposite_row}

-- lists the other way round

map-reverse : {X Y : Type 0} (f : X → Y) (xs : List X) → map f (reverse xs) ≡ reverse (map f xs)
map-reverse f [] = refl
map-reverse f (x ∷ xs) =
    ap (map f) (reverse-append (x ∷ []) xs) ∙ map-append f (reverse xs) (x ∷ [])
    ∙ ap (λ ys. ys ++ f x ∷ []) (map-reverse f xs) ∙ sym (reverse-append (f x ∷ []) (map f xs))

filter-reverse : {X : Type 0} (p : X → Bool) (xs : List X) → filter p (reverse xs) ≡ reverse (filter p xs)
filter-reverse p [] = refl
filter-reverse p (x ∷ xs) =
    ap (filter p) (reverse-append (x ∷ []) xs) ∙ filter-append p (reverse xs) (x ∷ [])
    ∙ ap (λ ys. ys ++ filter p (x ∷ [])) (filter-reverse p xs) ∙ last (p x) x (filter p xs)
  where
    last : {X : Type 0} (passes : Bool) (x : X) (ys : List X)
        → reverse ys ++ cond passes (x ∷ []) [] ≡ reverse (cond passes (x ∷ ys) ys)
    last true x ys = sym (reverse-append (x ∷ []) ys)
    last false x ys = append-nil (reverse ys)

flat_map-reverse : {X Y : Type 0} (f : X → List Y) (xs : List X)
    → flat_map f (reverse xs) ≡ reverse (flat_map (λ x. reverse (f x)) xs)
flat_map-reverse f [] = refl
flat_map-reverse f (x ∷ xs) =
    ap (flat_map f) (reverse-append (x ∷ []) xs) ∙ flat_map-append f (reverse xs) (x ∷ [])
    ∙ ap (λ ys. ys ++ (f x ++ [])) (flat_map-reverse f xs)
    ∙ ap (λ ys. reverse (flat_map (λ y. reverse (f y)) xs) ++ ys) (append-nil (f x) ∙ sym (reverse-reverse (f x)))
    ∙ sym (reverse-append (reverse (f x)) (flat_map (λ y. reverse (f y)) xs))

-- the numbers from -n to n are their opposites the other way round
from_minus-turned : (n : ℕ) → from_minus n ≡ reverse (map neg_ℤ (from_minus n))
from_minus-turned n =
    let whole = length-map-range_with_len (λ k. pos k -ℤ pos n) 0 (2 * n + 1) in
    let opposites = map neg_ℤ (from_minus n) in
    let count : length opposites ≡ 2 * n + 1 = length-map (from_minus n) neg_ℤ ∙ whole in
    ext_get_or (pos 0) (from_minus n) (reverse opposites) (whole ∙ sym (length-reverse opposites ∙ count))
    (λ k within.
    let below : k < 2 * n + 1 = omega (arith, within, whole) in
    let back : length opposites - 1 - k < 2 * n + 1 = omega (arith, count, below) in
    get_or-map-range_with_len (λ k. pos k -ℤ pos n) 0 (2 * n + 1) k k (pos 0) below (omega arith)
    ∙ sym (get_or-reverse opposites k (pos 0) (omega (arith, count, below))
    ∙ get_or-map neg_ℤ (from_minus n) (length opposites - 1 - k) (pos 0) (pos 0) (omega (arith, back, whole))
    ∙ ap neg_ℤ
    (get_or-map-range_with_len (λ k. pos k -ℤ pos n) 0 (2 * n + 1) (length opposites - 1 - k) (length opposites - 1 - k) (pos 0) back
    (omega arith))
    ∙ opposite k n (length opposites) count below))
  where
    opposite : (k n m : ℕ) → m ≡ 2 * n + 1 → k < 2 * n + 1 → neg_ℤ (pos (m - 1 - k) -ℤ pos n) ≡ pos k -ℤ pos n
    opposite k n m count below = omega (arith, ints, count, below)

-- a code with as many crossings as another, and its dimensions at the opposite degrees
module _ (p : ℕ) (code new : Code) (size : length new.crossings ≡ length code.crossings)
    (same : (i j : ℤ) → dimension p new (neg_ℤ i) (neg_ℤ j) ≡ dimension p code i j) where
  abbrev n : ℕ
  n = length code.crossings

  filter-opposite : (rows : List Row) → filter is_shown (map opposite_row rows) ≡ map opposite_row (filter is_shown rows)
  filter-opposite [] = refl
  filter-opposite (row ∷ rows) =
      ap (λ ys. cond (is_shown row) (opposite_row row ∷ ys) ys) (filter-opposite rows)
      ∙ shown (is_shown row) row (filter is_shown rows)
    where
      shown : (is : Bool) (row : Row) (rows : List Row)
          → cond is (opposite_row row ∷ map opposite_row rows) (map opposite_row rows) ≡ map opposite_row (cond is (row ∷ rows) rows)
      shown true row rows = refl
      shown false row rows = refl

  rows_at-opposite : (j : ℤ) → rows_at p new (neg_ℤ j) ≡ reverse (map opposite_row (rows_at p code j))
  rows_at-opposite j =
      let row = row_at p new (neg_ℤ j) in
      ap (λ m. filter is_shown (map row (from_minus m))) size
      ∙ ap (λ is. filter is_shown (map row is)) (from_minus-turned n)
      ∙ ap (filter is_shown) (map-reverse row (map neg_ℤ (from_minus n)) ∙ ap reverse (map-map row neg_ℤ (from_minus n)))
      ∙ filter-reverse is_shown (map (λ i. row (neg_ℤ i)) (from_minus n))
      ∙ ap (λ (f : ℤ → Row). reverse (filter is_shown (map f (from_minus n))))
      (fun_ext (λ i. ap (λ (d : ℕ). let made : Row = record { j = neg_ℤ j; i = neg_ℤ i; dim = d } in made) (same i j)))
      ∙ ap (λ rows. reverse (filter is_shown rows)) (sym (map-map opposite_row (row_at p code j) (from_minus n)))
      ∙ ap reverse (filter-opposite (map (row_at p code j) (from_minus n)))

  pub table-opposite : table p new ≡ dual_table (table p code)
  table-opposite =
      ap (λ (rows : List Row). record { field = p; rows = rows })
      (ap (flat_map (rows_at p new)) (from_minus-turned EXPONENT)
      ∙ flat_map-reverse (rows_at p new) (map neg_ℤ (from_minus EXPONENT))
      ∙ ap reverse
      (flat_map-map (λ j. reverse (rows_at p new j)) neg_ℤ (from_minus EXPONENT)
      ∙ ap (λ (f : ℤ → List Row). flat_map f (from_minus EXPONENT))
      (fun_ext (λ j. ap reverse (rows_at-opposite j) ∙ reverse-reverse (map opposite_row (rows_at p code j))))
      ∙ flat_map-opposite (from_minus EXPONENT)))
    where
      flat_map-opposite : (js : List ℤ)
          → flat_map (λ j. map opposite_row (rows_at p code j)) js ≡ map opposite_row (flat_map (rows_at p code) js)
      flat_map-opposite [] = refl
      flat_map-opposite (j ∷ js) =
          ap (λ rows. map opposite_row (rows_at p code j) ++ rows) (flat_map-opposite js)
          ∙ sym (map-append opposite_row (rows_at p code j) (flat_map (rows_at p code) js))
