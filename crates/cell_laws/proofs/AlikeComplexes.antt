-- Cells that are alike are complexes together, and elimination from a list in any order.
use Rattle.std.proofs.lemmas.Bool.Decides.{nat_tests}
use Rattle.std.proofs.Common.{◌≡◌, ◌≢◌, ℕ, suc, ◌*◌, ◌<◌, ◌∙◌, ℤ, pos, ◌+ℤ◌, List, [], ◌∷◌, length, get_or, refl, sym, subst₂, ap, arith}
use Rattle.std.specs.List.{Contains, sum_by}
use Rattle.std.proofs.lemmas.List.Elements.{recursion_from_All}
use Rattle.kh_types.specs.Residues.{HasInverses, Same}
use Rattle.kh_types.proofs.ListSums.{sum_by-times}
use Rattle.kh_types.proofs.PlainRank.{other-below}
use Rattle.kh_types.proofs.Residues.{same-equal, same-mul, same-scaled}
use Rattle.cell_laws.specs.Alike.{AreAlike, AreListed}
use Rattle.cell_laws.specs.Cells.{AreComplex, Cells, dimension_at}
use Rattle.cell_laws.specs.Elimination.{ArePivots, all_of, cells_left}
use Rattle.cell_laws.proofs.AlikeCells.{coefficient-back, dimension-alike}
use Rattle.cell_laws.proofs.Members.{sum_by-same}
use Rattle.cell_laws.proofs.RestCells.{complex-left, dimension-left}

module _ {A B : Type 0} (p : ℕ) (to : A → B) (sign : A → ℕ) (first : Cells A) (second : Cells B) (alike : AreAlike p to sign first second)
    (below : (x y : B) → second.coefficient x y < p) (complex : AreComplex p first) where
  back-named : (x u : A) → Contains first.list x → Contains first.list u
      → Same p (second.coefficient (to x) (to u)) (sign x * (sign u * first.coefficient x u))
  back-named x u has_x has_u = grind (arith, nat_tests, coefficient-back)

  -- a coefficient other than 0 comes from one
  some-first : (x u : A) → Contains first.list x → Contains first.list u → second.coefficient (to x) (to u) ≢ 0
      → first.coefficient x u ≢ 0
  some-first x u has_x has_u some none =
      other-below p (second.coefficient (to x) (to u)) (below (to x) (to u)) some
      (back-named x u has_x has_u
      ∙ same-equal p (sign x * (sign u * first.coefficient x u)) 0
      (ap (λ n. sign x * (sign u * n)) none ∙ nothing (sign x) (sign u)))
    where
      nothing : (a b : ℕ) → a * (b * 0) ≡ 0
      nothing a b = omega arith

  squares-named : (x z : A) → Contains first.list x → Contains first.list z
      → Same p (sum_by (λ y. second.coefficient (to x) y * second.coefficient y (to z)) second.list) 0
  squares-named x z has_x has_z =
      let d = second.coefficient in
      let c = first.coefficient in
      let ends = sign x * sign z in
      same-equal p (sum_by (λ y. d (to x) y * d y (to z)) second.list) (sum_by (λ u. d (to x) (to u) * d (to u) (to z)) first.list)
      (alike.listed.sums (λ y. d (to x) y * d y (to z)))
      ∙ sum_by-same p (λ u. d (to x) (to u) * d (to u) (to z)) (λ u. ends * (c x u * c u z)) first.list
      (λ u has_u.
      same-mul p (d (to x) (to u)) (sign x * (sign u * c x u)) (d (to u) (to z)) (sign u * (sign z * c u z))
      (back-named x u has_x has_u) (back-named u z has_u has_z)
      ∙ same-equal p (sign x * (sign u * c x u) * (sign u * (sign z * c u z))) (sign u * sign u * (ends * (c x u * c u z)))
      (regrouped (sign x) (sign u) (sign z) (c x u) (c u z))
      ∙ same-mul p (sign u * sign u) 1 (ends * (c x u * c u z)) (ends * (c x u * c u z)) (alike.squares u has_u) refl
      ∙ same-equal p (1 * (ends * (c x u * c u z))) (ends * (c x u * c u z)) (once (ends * (c x u * c u z))))
      ∙ same-equal p (sum_by (λ u. ends * (c x u * c u z)) first.list) (ends * sum_by (λ u. c x u * c u z) first.list)
      (sum_by-times (λ u. c x u * c u z) ends first.list)
      ∙ same-scaled p ends (sum_by (λ u. c x u * c u z) first.list) 0 (complex.squares x z has_x has_z)
      ∙ same-equal p (ends * 0) 0 (omega arith)
    where
      regrouped : (a b k m n : ℕ) → a * (b * m) * (b * (k * n)) ≡ b * b * (a * k * (m * n))
      regrouped a b k m n = omega arith

      once : (n : ℕ) → 1 * n ≡ n
      once n = omega arith

  pub complex-alike : AreComplex p second
  complex-alike =
      record {
        below = below;
        homological = λ x y has_x has_y.
            let u = alike.listed.back x has_x in
            let v = alike.listed.back y has_y in
            subst₂ (λ (a b : B). second.coefficient a b ≢ 0 → second.homological b ≡ second.homological a +ℤ pos 1) u.2 v.2
            (λ some.
            alike.homological v.0 v.1 ∙ complex.homological u.0 v.0 u.1 v.1 (some-first u.0 v.0 u.1 v.1 some)
            ∙ ap (λ d. d +ℤ pos 1) (sym (alike.homological u.0 u.1)));
        quantum = λ x y has_x has_y.
            let u = alike.listed.back x has_x in
            let v = alike.listed.back y has_y in
            subst₂ (λ (a b : B). second.coefficient a b ≢ 0 → second.quantum b ≡ second.quantum a) u.2 v.2
            (λ some.
            alike.quantum v.0 v.1 ∙ complex.quantum u.0 v.0 u.1 v.1 (some-first u.0 v.0 u.1 v.1 some)
            ∙ sym (alike.quantum u.0 u.1));
        squares = λ x z has_x has_z.
            let u = alike.listed.back x has_x in
            let v = alike.listed.back z has_z in
            subst₂ (λ (a b : B). Same p (sum_by (λ y. second.coefficient a y * second.coefficient y b) second.list) 0) u.2 v.2
            (squares-named u.0 v.0 u.1 v.1);
      }

-- the same cells in another order
module _ {A : Type 0} (p : ℕ) (cells : Cells A) (pairs : List (A × A)) (rest : List A) (field : HasInverses p)
    (complex : AreComplex p cells) (listed : AreListed (λ (x : A). x) cells.list (all_of pairs rest))
    (are : ArePivots cells.coefficient pairs) where
  abbrev in_order : Cells A
  in_order = record {
    list = all_of pairs rest;
    homological = cells.homological;
    quantum = cells.quantum;
    coefficient = cells.coefficient;
  }

  alike-in_order : AreAlike p (λ (x : A). x) (λ (x : A). 1) cells in_order
  alike-in_order = grind (arith, nat_tests)

  complex-in_order : AreComplex p in_order
  complex-in_order = complex-alike p (λ (x : A). x) (λ (x : A). 1) cells in_order alike-in_order complex.below complex

  pub complex-left_any : AreComplex p (cells_left p cells pairs rest)
  complex-left_any = complex-left p in_order pairs rest field complex-in_order refl are

  pub dimension-left_any : (i j : ℤ) → dimension_at p (cells_left p cells pairs rest) i j ≡ dimension_at p cells i j
  dimension-left_any i j =
      dimension-left p in_order pairs rest field complex-in_order refl are i j
      ∙ dimension-alike p (λ (x : A). x) (λ (x : A). 1) cells in_order alike-in_order field complex.below complex.below i j

-- pivots by their places in the list
pub pivots-from_places : {A : Type 0} (c : A → A → ℕ) (pairs : List (A × A))
    → ((k : ℕ) (d : A × A) → k < length pairs → c (get_or pairs k d).0 (get_or pairs k d).1 ≢ 0)
    → ((k l : ℕ) (d : A × A) → k < length pairs → l < length pairs → k ≢ l → c (get_or pairs k d).0 (get_or pairs l d).1 ≡ 0)
    → ArePivots c pairs
pivots-from_places c [] some apart = tt
pivots-from_places c (pair ∷ pairs) some apart = (
  some 0 pair (omega arith),
  recursion_from_All (λ other. (c pair.0 other.1 ≡ 0) × (c other.0 pair.1 ≡ 0)) pairs
      (λ k d within. (
        apart 0 (suc k) d (omega arith) (omega (arith, within)) (omega arith),
        apart (suc k) 0 d (omega (arith, within)) (omega arith) (omega arith),
      )),
  pivots-from_places c pairs (λ k d within. some (suc k) d (omega (arith, within)))
      (λ k l d k_within l_within other.
      apart (suc k) (suc l) d (omega (arith, k_within)) (omega (arith, l_within)) (λ same. other (omega (arith, same)))),
)
