-- The survivors below all cells, and those above all.
use Rattle.std.proofs.lemmas.Bool.Decides.{nat_tests}
use Rattle.std.proofs.Common.{◌≡◌, ℕ, ◌+◌, ◌-◌, ◌<◌, ◌∙◌, ℤ, pos, ◌+ℤ◌, ◌-ℤ◌, List, [], ◌∷◌, length, refl, sym, ap, ap₂, arith, Bool, true, false, cond}
use Rattle.std.specs.Prelude.{◌&&◌, ◌≤ℤ◌, ◌<ℤ◌, int_le, int_lt}
use Rattle.std.specs.List.{Contains, filter}
use Rattle.std.proofs.lemmas.Int.{ints}
use Rattle.kh_types.specs.Rank.{rank}
use Rattle.kh_types.specs.Residues.{HasInverses}
use Rattle.kh_types.proofs.Lists.{Contains-first, Contains-later}
use Rattle.cell_laws.specs.Cells.{Cells, cells_at, differential_at, dimension_at, has_both, table_of}
use Rattle.cell_laws.proofs.Members.{Contains-kept}
use Rattle.cell_laws.specs.Filtered.{cells_below, cells_from, cells_of_degree, columns_from, differential_of, has_degree, rows_below, survivors, unfiltered}
use Rattle.cell_laws.proofs.Degrees.{both_parts, is_below, is_from, le-decides, lt-decides}
use Rattle.cell_laws.proofs.LastSurvivors.{rank-nothing}

-- tests that agree on the elements of a list
filter-members : {X : Type 0} (f g : X → Bool) (xs : List X) → ((x : X) → Contains xs x → f x ≡ g x) → filter f xs ≡ filter g xs
filter-members f g [] same = refl
filter-members {X} f g (x ∷ xs) same =
    ap₂ (λ (b : Bool) (ys : List X). cond b (x ∷ ys) ys) (same x (Contains-first x xs))
    (filter-members f g xs (λ y has. same y (Contains-later x y xs has)))

length-nothing : {X : Type 0} (xs : List X) → ((x : X) → Contains xs x → ⊥) → length xs ≡ 0
length-nothing [] empty = refl
length-nothing (x ∷ xs) empty = absurd (empty x (Contains-first x xs))

module _ {A : Type 0} (p : ℕ) (cells : Cells A) (field : HasInverses p) (below : (x y : A) → cells.coefficient x y < p) where
  -- from t on there is nothing
  nothing-from : (i t : ℤ) → ((x : A) → Contains cells.list x → cells.quantum x <ℤ t) → (x : A) → Contains (cells_from cells i t) x → ⊥
  nothing-from i t past x has =
      let kept = Contains-kept (is_from cells i t) cells.list x has in
      let high = le-decides t (cells.quantum x) (both_parts (has_degree cells i x) (int_le t (cells.quantum x)) kept.1).1 in
      absurd (omega (arith, ints, high, past x kept.0))

  -- all degrees below t: the rows below t are all rows
  below-all : (i t : ℤ) → ((x : A) → Contains cells.list x → cells.quantum x <ℤ t) → cells_below cells i t ≡ cells_of_degree cells i
  below-all i t past =
      filter-members (is_below cells i t) (has_degree cells i) cells.list
      (λ x has. kept (has_degree cells i x) (cells.quantum x) t (past x has))
    where
      kept : (s : Bool) (q t : ℤ) → q <ℤ t → (s && int_lt q t) ≡ s
      kept s q t less = grind (arith, nat_tests, ints)

  pub survivors-above : (i t : ℤ) → ((x : A) → Contains cells.list x → cells.quantum x <ℤ t) → survivors p cells i t ≡ 0
  survivors-above i t past =
      none (length (cells_from cells i t)) (rank p (rows_below cells (i -ℤ pos 1) t)) (rank p (columns_from cells i t))
      (rank p (differential_of cells (i -ℤ pos 1))) (length-nothing (cells_from cells i t) (nothing-from i t past))
      (ap (λ (xs : List A). rank p (table_of cells.coefficient (cells_of_degree cells (i -ℤ pos 1)) xs))
      (below-all (i -ℤ pos 1 +ℤ pos 1) t past))
    where
      none : (n r k w : ℕ) → n ≡ 0 → r ≡ w → n + r - k - w ≡ 0
      none n r k w no_cell all = omega (arith, no_cell, all)

  -- all degrees from t on
  nothing-below : (i t : ℤ) → ((x : A) → Contains cells.list x → t ≤ℤ cells.quantum x) → (x : A) → Contains (cells_below cells i t) x → ⊥
  nothing-below i t least x has =
      let kept = Contains-kept (is_below cells i t) cells.list x has in
      let low = lt-decides (cells.quantum x) t (both_parts (has_degree cells i x) (int_lt (cells.quantum x) t) kept.1).1 in
      absurd (omega (arith, ints, low, least x kept.0))

  from-all : (i t : ℤ) → ((x : A) → Contains cells.list x → t ≤ℤ cells.quantum x) → cells_from cells i t ≡ cells_of_degree cells i
  from-all i t least =
      filter-members (is_from cells i t) (has_degree cells i) cells.list
      (λ x has. kept (has_degree cells i x) (cells.quantum x) t (least x has))
    where
      kept : (s : Bool) (q t : ℤ) → t ≤ℤ q → (s && int_le t q) ≡ s
      kept s q t least = grind (arith, nat_tests, ints)

  unfiltered-at : (i : ℤ) → cells_at (unfiltered cells) i (pos 0) ≡ cells_of_degree cells i
  unfiltered-at i =
      filter-members (has_both (unfiltered cells) i (pos 0)) (has_degree cells i) cells.list (λ x has. kept (has_degree cells i x))
    where
      kept : (s : Bool) → (s && true) ≡ s
      kept true = refl
      kept false = refl

  whole : (i : ℤ) → rank p (differential_at (unfiltered cells) i (pos 0)) ≡ rank p (differential_of cells i)
  whole i = ap₂ (λ (us vs : List A). rank p (table_of cells.coefficient us vs)) (unfiltered-at i) (unfiltered-at (i +ℤ pos 1))

  pub survivors-all : (i t : ℤ) → ((x : A) → Contains cells.list x → t ≤ℤ cells.quantum x)
      → survivors p cells i t ≡ dimension_at p (unfiltered cells) i (pos 0)
  survivors-all i t least =
      together (length (cells_from cells i t)) (rank p (rows_below cells (i -ℤ pos 1) t)) (rank p (columns_from cells i t))
      (rank p (differential_of cells (i -ℤ pos 1))) (length (cells_at (unfiltered cells) i (pos 0)))
      (rank p (differential_at (unfiltered cells) i (pos 0))) (rank p (differential_at (unfiltered cells) (i -ℤ pos 1) (pos 0)))
      (ap length (from-all i t least ∙ sym (unfiltered-at i)))
      (rank-nothing p cells.coefficient (cells_of_degree cells (i -ℤ pos 1)) (cells_below cells (i -ℤ pos 1 +ℤ pos 1) t) field below
      (λ x y has_x has_y. absurd (nothing-below (i -ℤ pos 1 +ℤ pos 1) t least y has_y)))
      (ap (λ (xs : List A). rank p (table_of cells.coefficient xs (cells_of_degree cells (i +ℤ pos 1)))) (from-all i t least) ∙ sym (whole i))
      (sym (whole (i -ℤ pos 1)))
    where
      together : (n r k w m u v : ℕ) → n ≡ m → r ≡ 0 → k ≡ u → w ≡ v → n + r - k - w ≡ m - u - v
      together n r k w m u v size no_row columns whole = omega (arith, size, no_row, columns, whole)
