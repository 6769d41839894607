-- Cells that are one another's up to order, names and signs have the same survivors, and are filtered together.
--
-- What two tests pick of the cells corresponds where the tests agree on cells and their names. Another order exchanges rows or columns, and
-- signs multiply them by numbers that have inverses: neither changes a rank.
use Rattle.std.proofs.Common.{◌≡◌, ◌≢◌, ℕ, ◌+◌, ◌-◌, ◌*◌, ◌<◌, ◌∙◌, ℤ, pos, ◌+ℤ◌, ◌-ℤ◌, refl, sym, subst₂, ap, ap₂, arith}
use Rattle.std.specs.Prelude.{◌&&◌, ◌≤ℤ◌, int_le, int_lt}
use Rattle.std.specs.List.{Contains}
use Rattle.std.specs.Ordering.{int_eq}
use Rattle.kh_types.specs.Rank.{rank}
use Rattle.kh_types.specs.Residues.{HasInverses}
use Rattle.kh_types.proofs.PlainRank.{other-below}
use Rattle.kh_types.proofs.Residues.{same-equal}
use Rattle.cell_laws.specs.Alike.{AreAlike}
use Rattle.cell_laws.specs.Cells.{AreComplex, Cells}
use Rattle.cell_laws.proofs.AlikeCells.{Agree, coefficient-back, length-alike, rank-alike}
use Rattle.cell_laws.proofs.AlikeComplexes.{complex-alike}
use Rattle.cell_laws.specs.Filtered.{AreFiltered, columns_from, differential_of, has_degree, rows_below, survivors, unfiltered}
use Rattle.cell_laws.proofs.Degrees.{is_below, is_from}

-- cells that are alike
module _ {A B : Type 0} (p : ℕ) (to : A → B) (sign : A → ℕ) (first : Cells A) (second : Cells B) (alike : AreAlike p to sign first second)
  where
    degrees-agree : (i : ℤ) → Agree p to sign first second alike (has_degree first i) (has_degree second i)
    degrees-agree i x has = ap (λ (d : ℤ). int_eq d i) (alike.homological x has)

    from-agree : (i t : ℤ) → Agree p to sign first second alike (is_from first i t) (is_from second i t)
    from-agree i t x has = ap₂ (λ (d q : ℤ). int_eq d i && int_le t q) (alike.homological x has) (alike.quantum x has)

    below-agree : (i t : ℤ) → Agree p to sign first second alike (is_below first i t) (is_below second i t)
    below-agree i t x has = ap₂ (λ (d q : ℤ). int_eq d i && int_lt q t) (alike.homological x has) (alike.quantum x has)

    module _ (field : HasInverses p) (below : (x y : A) → first.coefficient x y < p) (other_below : (x y : B) → second.coefficient x y < p)
      where
        whole-alike : (i : ℤ) → rank p (differential_of second i) ≡ rank p (differential_of first i)
        whole-alike i =
            rank-alike p to sign first second alike field below other_below (has_degree first i) (has_degree first (i +ℤ pos 1)) (has_degree second i)
            (has_degree second (i +ℤ pos 1)) (degrees-agree i) (degrees-agree (i +ℤ pos 1))

        rows-alike : (i t : ℤ) → rank p (rows_below second i t) ≡ rank p (rows_below first i t)
        rows-alike i t =
            rank-alike p to sign first second alike field below other_below (has_degree first i) (is_below first (i +ℤ pos 1) t) (has_degree second i)
            (is_below second (i +ℤ pos 1) t) (degrees-agree i) (below-agree (i +ℤ pos 1) t)

        columns-alike : (i t : ℤ) → rank p (columns_from second i t) ≡ rank p (columns_from first i t)
        columns-alike i t =
            rank-alike p to sign first second alike field below other_below (is_from first i t) (has_degree first (i +ℤ pos 1)) (is_from second i t)
            (has_degree second (i +ℤ pos 1)) (from-agree i t) (degrees-agree (i +ℤ pos 1))

        pub survivors-alike : (i t : ℤ) → survivors p second i t ≡ survivors p first i t
        survivors-alike i t =
            ap₂ (λ m n. m - n)
            (ap₂ (λ m n. m - n)
            (ap₂ (λ m n. m + n) (length-alike p to sign first second alike (is_from first i t) (is_from second i t) (from-agree i t)) (rows-alike (i -ℤ pos 1) t))
            (columns-alike i t))
            (whole-alike (i -ℤ pos 1))

-- cells whose quantum degrees are forgotten are a complex
pub complex-unfiltered : {A : Type 0} (p : ℕ) (cells : Cells A) → AreFiltered p cells → AreComplex p (unfiltered cells)
complex-unfiltered p cells filtered =
    record {
      below = filtered.below;
      homological = filtered.homological;
      quantum = λ x y has_x has_y some. refl;
      squares = filtered.squares;
    }

module _ {A B : Type 0} (p : ℕ) (to : A → B) (sign : A → ℕ) (first : Cells A) (second : Cells B)
    (below : (x y : B) → second.coefficient x y < p) (alike : AreAlike p to sign first second) (filtered : AreFiltered p first) where
  alike-unfiltered : AreAlike p to sign (unfiltered first) (unfiltered second)
  alike-unfiltered =
      record {
        listed = alike.listed;
        squares = alike.squares;
        homological = alike.homological;
        quantum = λ x has. refl;
        coefficient = alike.coefficient;
      }

  -- a coefficient other than 0 comes from one
  some-first : (x u : A) → Contains first.list x → Contains first.list u → second.coefficient (to x) (to u) ≢ 0
      → first.coefficient x u ≢ 0
  some-first x u has_x has_u some none =
      other-below p (second.coefficient (to x) (to u)) (below (to x) (to u)) some
      (coefficient-back p to sign first second alike (to x) (to u) x u (has_x, refl) (has_u, refl)
      ∙ same-equal p (sign x * (sign u * first.coefficient x u)) 0
      (ap (λ n. sign x * (sign u * n)) none ∙ nothing (sign x) (sign u)))
    where
      nothing : (a b : ℕ) → a * (b * 0) ≡ 0
      nothing a b = omega arith

  pub filtered-alike : AreFiltered p second
  filtered-alike =
      let complex = complex-alike p to sign (unfiltered first) (unfiltered second) alike-unfiltered below (complex-unfiltered p first filtered) in
      record {
        below = below;
        homological = complex.homological;
        quantum = λ x y has_x has_y.
            let u = alike.listed.back x has_x in
            let v = alike.listed.back y has_y in
            subst₂ (λ (a b : B). second.coefficient a b ≢ 0 → second.quantum a ≤ℤ second.quantum b) u.2 v.2
            (λ some.
            subst₂ (λ (m n : ℤ). m ≤ℤ n) (sym (alike.quantum u.0 u.1)) (sym (alike.quantum v.0 v.1))
            (filtered.quantum u.0 v.0 u.1 v.1 (some-first u.0 v.0 u.1 v.1 some)));
        squares = complex.squares;
      }
