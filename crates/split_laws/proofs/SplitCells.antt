-- The dimensions of a complex that splits are the sums of those of its two parts.
use Rattle.std.proofs.Common.{◌≡◌, ℕ, inl, inr, ◌+◌, ◌-◌, ◌*◌, ◌≤◌, ◌∙◌, ℤ, pos, ◌+ℤ◌, ◌-ℤ◌, List, [], ◌∷◌, length, refl, sym, ap, ap₂, arith, Bool, true, false, cond, not}
use Rattle.std.specs.List.{Contains, filter, sum_by}
use Rattle.std.proofs.lemmas.Bool.{cases_eq}
use Rattle.kh_types.specs.Rank.{rank}
use Rattle.kh_types.specs.Residues.{HasInverses}
use Rattle.kh_types.proofs.Residues.{same-equal}
use Rattle.cell_laws.specs.Cells.{AreComplex, Cells, cells_at, differential_at, dimension_at, has_both, table_of}
use Rattle.cell_laws.proofs.LeftCells.{both-decides, both-from, next-degree}
use Rattle.cell_laws.proofs.Members.{Contains-kept, filter-exchanged, sum_by-kept}
use Rattle.split_laws.specs.Splits.{Splits, fails, part_of}
use Rattle.split_laws.proofs.RanksFit.{ranks-fit}
use Rattle.split_laws.proofs.SplitRanks.{is-fails, rank-split}

-- a list in two parts
pub length-parts : {A : Type 0} (test : A → Bool) (xs : List A)
    → length xs ≡ length (filter (fails test) xs) + length (filter test xs)
length-parts test [] = refl
length-parts test (x ∷ xs) = step (test x) (filter (fails test) xs) (filter test xs) (length-parts test xs)
  where
    step : (b : Bool) (ys zs : List _) → length xs ≡ length ys + length zs
        → length (x ∷ xs) ≡ length (cond (not b) (x ∷ ys) ys) + length (cond b (x ∷ zs) zs)
    step true ys zs is = omega (arith, is)
    step false ys zs is = omega (arith, is)

module _ {A : Type 0} (p : ℕ) (cells : Cells A) (lower : A → Bool) (added : A → A → ℕ) (field : HasInverses p)
    (complex : AreComplex p cells) (splits : Splits p cells lower added) where
  abbrev c : A → A → ℕ
  c x y = cells.coefficient x y

  at_odds : {b : Bool} → b ≡ false → b ≡ true → ⊥
  at_odds is_false is_true = cc

  zero_left : (m n : ℕ) → m ≡ 0 → m * n ≡ 0
  zero_left m n is = ap (λ k. k * n) is ∙ omega arith

  zero_right : (m n : ℕ) → n ≡ 0 → m * n ≡ 0
  zero_right m n is = ap (λ k. m * k) is ∙ omega arith

  -- both parts are complexes
  pub complex-lower : AreComplex p (part_of cells lower)
  complex-lower =
      record {
        below = complex.below;
        homological = λ x y has_x has_y. complex.homological x y (home x has_x) (home y has_y);
        quantum = λ x y has_x has_y. complex.quantum x y (home x has_x) (home y has_y);
        squares = λ x z has_x has_z.
            same-equal p (sum_by (λ y. c x y * c y z) (filter lower cells.list)) (sum_by (λ y. c x y * c y z) cells.list)
            (sum_by-kept (λ y. c x y * c y z) lower cells.list
            (λ y has_y is_upper.
            zero_left (c x y) (c y z)
            (splits.closed x y (home x has_x) has_y (Contains-kept lower cells.list x has_x).1 is_upper)))
            ∙ complex.squares x z (home x has_x) (home z has_z);
      }
    where
      home : (x : A) → Contains (filter lower cells.list) x → Contains cells.list x
      home x has = (Contains-kept lower cells.list x has).0

  pub complex-upper : AreComplex p (part_of cells (fails lower))
  complex-upper =
      record {
        below = complex.below;
        homological = λ x y has_x has_y. complex.homological x y (home x has_x) (home y has_y);
        quantum = λ x y has_x has_y. complex.quantum x y (home x has_x) (home y has_y);
        squares = λ x z has_x has_z.
            same-equal p (sum_by (λ y. c x y * c y z) (filter (fails lower) cells.list)) (sum_by (λ y. c x y * c y z) cells.list)
            (sum_by-kept (λ y. c x y * c y z) (fails lower) cells.list
            (λ y has_y is_lower.
            zero_right (c x y) (c y z)
            (splits.closed y z has_y (home z has_z) (lower-is (lower y) is_lower)
            (is-fails lower z (Contains-kept (fails lower) cells.list z has_z).1))))
            ∙ complex.squares x z (home x has_x) (home z has_z);
      }
    where
      home : (x : A) → Contains (filter (fails lower) cells.list) x → Contains cells.list x
      home x has = (Contains-kept (fails lower) cells.list x has).0

      lower-is : (b : Bool) → not b ≡ false → b ≡ true
      lower-is true is = refl
      lower-is false is = absurd (cc)

  -- the rank at a degree
  rank-parts : (i j : ℤ) → rank p (differential_at cells i j)
      ≡ rank p (differential_at (part_of cells (fails lower)) i j) + rank p (differential_at (part_of cells lower) i j)
  rank-parts i j =
      let tails = cells_at cells i j in
      let heads = cells_at cells (i +ℤ pos 1) j in
      let at = has_both cells i j in
      let next = has_both cells (i +ℤ pos 1) j in
      rank-split p (λ x y. cells.coefficient x y) added lower field complex.below tails heads
      (λ x y has_x has_y. splits.closed x y (home at x has_x) (home next y has_y))
      (λ x z has_x has_z is_x is_z.
      let in_x = Contains-kept at cells.list x has_x in
      let in_z = Contains-kept next cells.list z has_z in
      same-equal p (c x z + sum_by (λ y. added x y * c y z) (filter lower tails))
      (c x z + sum_by (λ y. added x y * c y z) (filter lower cells.list))
      (ap (λ n. c x z + n)
      (ap (λ (ys : List A). sum_by (λ y. added x y * c y z) ys) (filter-exchanged lower at cells.list)
      ∙ sum_by-kept (λ y. added x y * c y z) at (filter lower cells.list)
      (λ y has_y other. elim (cases_eq (added x y) 0) [
        | inl none ↦ zero_left (added x y) (c y z) none
        | inr some ↦
            let in_y = Contains-kept lower cells.list y has_y in
            let degrees = both-decides cells i j x in_x.1 in
            absurd (at_odds other (both-from cells i j y
            (splits.homological x y in_x.0 in_y.0 is_x some ∙ degrees.0) (splits.quantum x y in_x.0 in_y.0 is_x some ∙ degrees.1)))
      ])))
      ∙ splits.split x z in_x.0 in_z.0 is_x is_z
      ∙ same-equal p (sum_by (λ y. c x y * added y z) (filter (fails lower) cells.list))
      (sum_by (λ y. c x y * added y z) (filter (fails lower) heads))
      (sym (ap (λ (ys : List A). sum_by (λ y. c x y * added y z) ys) (filter-exchanged (fails lower) next cells.list)
      ∙ sum_by-kept (λ y. c x y * added y z) next (filter (fails lower) cells.list)
      (λ y has_y other. elim (cases_eq (c x y) 0) [
        | inl none ↦ zero_left (c x y) (added y z) none
        | inr some ↦
            let in_y = Contains-kept (fails lower) cells.list y has_y in
            absurd (at_odds other (next-degree p cells field complex i j x y in_x.0 in_y.0 some in_x.1))
      ]))))
      ∙ ap₂ (λ m n. m + n)
      (ap₂ (λ (ts hs : List A). rank p (table_of (λ x y. cells.coefficient x y) ts hs)) (filter-exchanged (fails lower) at cells.list)
      (filter-exchanged (fails lower) next cells.list))
      (ap₂ (λ (ts hs : List A). rank p (table_of (λ x y. cells.coefficient x y) ts hs)) (filter-exchanged lower at cells.list)
      (filter-exchanged lower next cells.list))
    where
      home : (test : A → Bool) (x : A) → Contains (filter test cells.list) x → Contains cells.list x
      home test x has = (Contains-kept test cells.list x has).0

  pub dimension-split : (i j : ℤ) → dimension_at p cells i j
      ≡ dimension_at p (part_of cells (fails lower)) i j + dimension_at p (part_of cells lower) i j
  dimension-split i j =
      let at = has_both cells i j in
      less (length (cells_at cells i j)) (length (cells_at (part_of cells (fails lower)) i j)) (length (cells_at (part_of cells lower) i j))
      (rank p (differential_at cells i j)) (rank p (differential_at (part_of cells (fails lower)) i j))
      (rank p (differential_at (part_of cells lower) i j))
      (rank p (differential_at cells (i -ℤ pos 1) j)) (rank p (differential_at (part_of cells (fails lower)) (i -ℤ pos 1) j))
      (rank p (differential_at (part_of cells lower) (i -ℤ pos 1) j))
      (length-parts lower (cells_at cells i j)
      ∙ ap₂ (λ m n. m + n) (ap length (filter-exchanged (fails lower) at cells.list)) (ap length (filter-exchanged lower at cells.list)))
      (rank-parts i j) (rank-parts (i -ℤ pos 1) j)
      (ranks-fit p (part_of cells (fails lower)) field complex-upper i j)
      (ranks-fit p (part_of cells lower) field complex-lower i j)
    where
      less : (n m k r s t u v w : ℕ) → n ≡ m + k → r ≡ s + t → u ≡ v + w → s + v ≤ m → t + w ≤ k
          → n - r - u ≡ (m - s - v) + (k - t - w)
      less n m k r s t u v w size out into fits fits_too = omega (arith, size, out, into, fits, fits_too)
