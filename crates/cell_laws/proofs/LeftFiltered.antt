-- What the elimination of shortest entries leaves is filtered, and has no smaller gap; and the cells may be listed in any order.
use Rattle.std.proofs.lemmas.Bool.Decides.{nat_tests}
use Rattle.std.proofs.Common.{◌≡◌, ◌≢◌, ℕ, ◌⊎◌, inl, inr, ◌*◌, ◌∙◌, ℤ, pos, ◌+ℤ◌, ◌-ℤ◌, List, [], ◌∷◌, refl, subst, ap, arith}
use Rattle.std.specs.Prelude.{◌≤ℤ◌}
use Rattle.std.specs.List.{Contains, sum_by}
use Rattle.std.proofs.lemmas.Bool.{cases_eq}
use Rattle.std.proofs.lemmas.Int.{by_lt_z, ints}
use Rattle.kh_types.specs.Rank.{inverse, minus_mod}
use Rattle.kh_types.specs.Residues.{HasInverses}
use Rattle.kh_types.proofs.Reduced.{minus_mod-nothing}
use Rattle.cell_laws.specs.Alike.{AreAlike, AreListed}
use Rattle.cell_laws.specs.Cells.{Cells}
use Rattle.cell_laws.specs.Elimination.{ArePivots, all_of, cells_left, eliminated, way_back}
use Rattle.cell_laws.proofs.AlikeComplexes.{complex-left_any}
use Rattle.cell_laws.proofs.Members.{Contains-cases, sum_by-term}
use Rattle.cell_laws.proofs.WaysBack.{head-of_all, rest-of_all, pivot-other, tail-of_all}
use Rattle.cell_laws.specs.Filtered.{AreFiltered, survivors, unfiltered}
use Rattle.cell_laws.specs.Shortest.{HaveGap, IsShortest}
use Rattle.cell_laws.proofs.AlikeSurvivors.{complex-unfiltered, filtered-alike, survivors-alike}
use Rattle.cell_laws.proofs.LeftSurvivors.{survivors-left}

-- a way back from a tail to a head through a pivot
record HasWay {A : Type 0} (c : A → A → ℕ) (pairs : List (A × A)) (x y : A) : Type 0 where
  pivot : A × A
  has : Contains pairs pivot
  first : c x pivot.1 ≢ 0
  last : c pivot.0 y ≢ 0

-- a coefficient that is left was there, or is a way back
there_or_way : {A : Type 0} (p : ℕ) (c : A → A → ℕ) (pairs : List (A × A)) (x y : A) → eliminated p c pairs x y ≢ 0
    → (c x y ≢ 0) ⊎ HasWay c pairs x y
there_or_way {A} p c pairs x y some = elim (cases_eq (c x y) 0) [
  | inr there ↦ inl there
  | inl none ↦
      let found = sum_by-term (way_back p c x y) pairs
      (λ no_way. some (ap (λ n. minus_mod p n (sum_by (way_back p c x y) pairs)) none
      ∙ minus_mod-nothing p (sum_by (way_back p c x y) pairs) no_way)) in
      let pair = found.0 in
      let inv = inverse p (c pair.0 pair.1) in
      inr (record {
        pivot = pair;
        has = found.1;
        first = λ is. found.2 (ap (λ n. n * (inv * c pair.0 y)) is ∙ omega arith);
        last = λ is. found.2 (ap (λ n. c x pair.1 * (inv * n)) is ∙ nothing (c x pair.1) inv);
      })
]
  where
    nothing : (a b : ℕ) → a * (b * 0) ≡ 0
    nothing a b = omega arith

-- an entry of the least gap is a shortest one
pub shortest-gap : {A : Type 0} (cells : Cells A) (gap : ℤ) (pair : A × A) → HaveGap cells gap → Contains cells.list pair.0
    → Contains cells.list pair.1 → cells.quantum pair.1 -ℤ cells.quantum pair.0 ≡ gap → IsShortest cells pair
shortest-gap cells gap pair least has_tail has_head is =
    record {
      out = λ y has_y some. omega (arith, ints, least pair.0 y has_tail has_y some, is);
      into = λ x has_x some. omega (arith, ints, least x pair.1 has_x has_head some, is);
    }

-- where no entry of the gap is left, the next gap is the least
pub gap-next : {A : Type 0} (cells : Cells A) (gap : ℤ) → HaveGap cells gap
    → ((x y : A) → Contains cells.list x → Contains cells.list y → cells.coefficient x y ≢ 0
    → cells.quantum y -ℤ cells.quantum x ≢ gap) → HaveGap cells (gap +ℤ pos 1)
gap-next cells gap least other x y has_x has_y some =
    further gap (cells.quantum y -ℤ cells.quantum x) (least x y has_x has_y some) (other x y has_x has_y some)
  where
    further : (g d : ℤ) → g ≤ℤ d → d ≢ g → (g +ℤ pos 1) ≤ℤ d
    further g d le differ = by_lt_z g d (λ less. omega (arith, ints, less)) (λ most. absurd (differ (omega (arith, ints, le, most))))

-- the cells in any order
module _ {A : Type 0} (p : ℕ) (cells : Cells A) (pairs : List (A × A)) (rest : List A)
    (listed : AreListed (λ (x : A). x) cells.list (all_of pairs rest)) where
  in_list : (x : A) → Contains (all_of pairs rest) x → Contains cells.list x
  in_list x has = let found = listed.back x has in subst (λ (u : A). Contains cells.list u) found.2 found.1

  has_tail : (pair : A × A) → Contains pairs pair → Contains cells.list pair.0
  has_tail pair has = in_list pair.0 (tail-of_all pairs rest pair has)

  has_head : (pair : A × A) → Contains pairs pair → Contains cells.list pair.1
  has_head pair has = in_list pair.1 (head-of_all pairs rest pair has)

  has_rest : (x : A) → Contains rest x → Contains cells.list x
  has_rest x has = in_list x (rest-of_all pairs rest x has)

  pub gap-left : (gap : ℤ) → HaveGap cells gap
      → ((pair : A × A) → Contains pairs pair → cells.quantum pair.1 -ℤ cells.quantum pair.0 ≡ gap)
      → HaveGap (cells_left p cells pairs rest) gap
  gap-left gap least each x y has_x has_y some = elim (there_or_way p cells.coefficient pairs x y some) [
    | inl there ↦ least x y (has_rest x has_x) (has_rest y has_y) there
    | inr way ↦
        let pair = way.pivot in
        omega (
          arith,
          ints,
          least x pair.1 (has_rest x has_x) (has_head pair way.has) way.first,
          least pair.0 y (has_tail pair way.has) (has_rest y has_y) way.last,
          each pair way.has,
        )
  ]

  module _ (field : HasInverses p) (filtered : AreFiltered p cells) (are : ArePivots cells.coefficient pairs)
      (shortest : (pair : A × A) → Contains pairs pair → IsShortest cells pair) where
    rises : (x y : A) → Contains rest x → Contains rest y → eliminated p cells.coefficient pairs x y ≢ 0
        → cells.quantum x ≤ℤ cells.quantum y
    rises x y has_x has_y some = elim (there_or_way p cells.coefficient pairs x y some) [
      | inl there ↦ filtered.quantum x y (has_rest x has_x) (has_rest y has_y) there
      | inr way ↦
          let pair = way.pivot in
          omega (
            arith,
            ints,
            (shortest pair way.has).into x (has_rest x has_x) way.first,
            (shortest pair way.has).out y (has_rest y has_y) way.last,
            filtered.quantum pair.0 pair.1 (has_tail pair way.has) (has_head pair way.has)
                (pivot-other cells.coefficient pairs pair are way.has),
          )
    ]

    pub filtered-left : AreFiltered p (cells_left p cells pairs rest)
    filtered-left =
        let complex = complex-left_any p (unfiltered cells) pairs rest field (complex-unfiltered p cells filtered) listed are in
        record {
          below = complex.below;
          homological = complex.homological;
          quantum = rises;
          squares = complex.squares;
        }

    abbrev in_order : Cells A
    in_order = record {
      list = all_of pairs rest;
      homological = cells.homological;
      quantum = cells.quantum;
      coefficient = cells.coefficient;
    }

    alike-in_order : AreAlike p (λ (x : A). x) (λ (x : A). 1) cells in_order
    alike-in_order = grind (arith, nat_tests)

    pub survivors-left_any : (i t : ℤ) → survivors p (cells_left p cells pairs rest) i t ≡ survivors p cells i t
    survivors-left_any i t =
        survivors-left p in_order pairs rest field
        (filtered-alike p (λ (x : A). x) (λ (x : A). 1) cells in_order filtered.below alike-in_order filtered) refl are
        (λ pair has. record {
          out = λ y has_y some. (shortest pair has).out y (in_list y has_y) some;
          into = λ x has_x some. (shortest pair has).into x (in_list x has_x) some;
        }) i t
        ∙ survivors-alike p (λ (x : A). x) (λ (x : A). 1) cells in_order alike-in_order field filtered.below filtered.below i t

-- one entry
pub survivors-left_entry : {A : Type 0} (p : ℕ) (cells : Cells A) (tail head : A) (rest : List A) → HasInverses p → AreFiltered p cells
    → AreListed (λ (x : A). x) cells.list (tail ∷ head ∷ rest) → cells.coefficient tail head ≢ 0 → IsShortest cells (tail, head)
    → (i t : ℤ) → survivors p (cells_left p cells ((tail, head) ∷ []) rest) i t ≡ survivors p cells i t
survivors-left_entry {A} p cells tail head rest field filtered listed some shortest i t =
    survivors-left_any p cells ((tail, head) ∷ []) rest listed field filtered (some, tt, tt)
    (λ pair has. elim (Contains-cases (tail, head) pair [] has) [
      | inl is ↦ subst (λ (q : A × A). IsShortest cells q) is shortest
      | inr none ↦ absurd (omega (arith, none.1))
    ]) i t
