-- A factor without a differential: pivots of the first factor are eliminated one after another, beside all cells of the second, until none
-- is left.
use Rattle.std.proofs.Common.{◌≡◌, ◌≢◌, ℕ, zero, suc, inl, inr, ◌+◌, ◌*◌, ◌<◌, ◌≤◌, ◌∙◌, ℤ, List, [], ◌∷◌, length, refl, subst, arith}
use Rattle.std.specs.List.{Contains, sum_by}
use Rattle.std.proofs.lemmas.Bool.{cases_eq}
use Rattle.kh_types.specs.Residues.{HasInverses, Same}
use Rattle.cell_laws.specs.Alike.{HasNoDoubles}
use Rattle.cell_laws.specs.Cells.{AreComplex, Cells, dimension_at}
use Rattle.cell_laws.specs.Elimination.{eliminated}
use Rattle.cell_laws.proofs.AlikeComplexes.{complex-left_any, dimension-left_any}
use Rattle.cell_laws.proofs.Members.{Contains-kept, sum_by-term}
use Rattle.product_laws.specs.Products.{Factor, IsTest, product_complex}
use Rattle.product_laws.proofs.OnePivot.{complex-one, dimension-one}
use Rattle.product_laws.proofs.PairCoefficients.{no-loop}
use Rattle.product_laws.proofs.PairLists.{length-ones, no-first, no-second, others, others-listed, others-once, term-nothing}

-- a factor with another list and other coefficients
abbrev pub cells_with : {A : Type 0} → Cells A → List A → (A → A → ℕ) → Cells A
cells_with cells list c =
    record { list = list; homological = cells.homological; quantum = cells.quantum; coefficient = c }

abbrev pub factor_with : {A : Type 0} → Factor A → List A → (A → A → ℕ) → Factor A
factor_with factor list c = record { cells = cells_with factor.cells list c; same = factor.same; sign = factor.sign }

module _ {A B : Type 0} (p : ℕ) (first : Factor A) (second : Factor B) (field : HasInverses p) (test : IsTest first.same)
    (second_test : IsTest second.same) (second_once : HasNoDoubles second.cells.list)
    (units : (y : B) → Contains second.cells.list y → Same p (second.sign y * second.sign y) 1) where
  -- what is left in the end
  pub record IsReduced (list : List A) (c : A → A → ℕ) : Type 0 where
    pub rest : List A
    pub left : A → A → ℕ
    pub below : (x y : A) → left x y < p
    pub among : (x : A) → Contains rest x → Contains list x
    pub once : HasNoDoubles rest
    pub none : (x y : A) → Contains rest x → Contains rest y → left x y ≡ 0
    pub alone : (i j : ℤ) → dimension_at p (cells_with first.cells rest left) i j ≡ dimension_at p (cells_with first.cells list c) i j
    pub complex : AreComplex p (product_complex p (factor_with first rest left) second)
    pub together : (i j : ℤ) → dimension_at p (product_complex p (factor_with first rest left) second) i j
        ≡ dimension_at p (product_complex p (factor_with first list c) second) i j

  abbrev total : List A → (A → A → ℕ) → ℕ
  total list c = sum_by (λ x. sum_by (c x) list) list

  done : (list : List A) (c : A → A → ℕ) → AreComplex p (cells_with first.cells list c)
      → AreComplex p (product_complex p (factor_with first list c) second) → HasNoDoubles list → total list c ≡ 0 → IsReduced list c
  done list c own product list_once zeros =
      record {
        rest = list;
        left = c;
        below = own.below;
        among = λ x has. has;
        once = list_once;
        none = λ x y has_x has_y. term-nothing (c x) list y (term-nothing (λ x. sum_by (c x) list) list x zeros has_x) has_y;
        alone = λ i j. refl;
        complex = product;
        together = λ i j. refl;
      }

  pub reduced : (fuel : ℕ) (list : List A) (c : A → A → ℕ) → length list ≤ fuel → AreComplex p (cells_with first.cells list c)
      → AreComplex p (product_complex p (factor_with first list c) second) → HasNoDoubles list → IsReduced list c
  reduced zero [] c few own product list_once = done [] c own product list_once refl
  reduced zero (x ∷ xs) c few own product list_once = absurd (omega (arith, few))
  reduced (suc fuel) list c few own product list_once = elim (cases_eq (total list c) 0) [
    | inl zeros ↦ done list c own product list_once zeros
    | inr some_total ↦
        let first_term = sum_by-term (λ x. sum_by (c x) list) list some_total in
        let x = first_term.0 in
        let second_term = sum_by-term (c x) list first_term.2 in
        let y = second_term.0 in
        let has_x = first_term.1 in
        let has_y = second_term.1 in
        let some = second_term.2 in
        let differ : x ≢ y =
        λ is. some (subst (λ (z : A). c x z ≡ 0) is (no-loop p (cells_with first.cells list c) x own has_x)) in
        let rest = others first.same test list list_once x y differ has_x has_y in
        let listed = others-listed first.same test list list_once x y differ has_x has_y in
        let c_left = eliminated p c ((x, y) ∷ []) in
        let fewer : length rest + 2 ≡ length list =
        omega (arith, listed.sums (λ z. 1), length-ones list, length-ones (x ∷ y ∷ rest)) in
        let made = reduced fuel rest c_left (omega (arith, few, fewer))
        (complex-left_any p (cells_with first.cells list c) ((x, y) ∷ []) rest field own listed (some, tt, tt))
        (complex-one p (factor_with first list c) second field test second_test second_once units own.below product x y rest differ
        listed some
        (no-first first.same test list list_once x y differ has_x has_y) (no-second first.same test list list_once x y differ has_x has_y))
        (others-once first.same test list list_once x y differ has_x has_y) in
        record {
          rest = made.rest;
          left = made.left;
          below = made.below;
          among = λ z has. (Contains-kept _ list z (made.among z has)).0;
          once = made.once;
          none = made.none;
          alone = λ i j.
              made.alone i j
              ∙ dimension-left_any p (cells_with first.cells list c) ((x, y) ∷ []) rest field own listed (some, tt, tt) i j;
          complex = made.complex;
          together = λ i j.
              made.together i j
              ∙ dimension-one p (factor_with first list c) second field test second_test second_once units own.below product x y rest differ
              listed
              some (no-first first.same test list list_once x y differ has_x has_y)
              (no-second first.same test list list_once x y differ has_x has_y) i j;
        }
  ]
