-- The level part of a filtered complex is a complex, and eliminations between equal quantum degrees keep its dimensions.
--
-- Degrees do not fall along coefficients. So two steps between equal degrees stay at this degree, and so does a way back through a pivot
-- of one degree: there only level coefficients count.
use Rattle.std.proofs.lemmas.Bool.Decides.{nat_tests}
use Rattle.std.proofs.Common.{◌≡◌, ◌≢◌, ℕ, inl, inr, ◌-◌, ◌*◌, ◌<◌, ◌∙◌, ℤ, pos, ◌+ℤ◌, ◌-ℤ◌, List, [], ◌∷◌, length, map, refl, sym, subst, ap, ap₂, arith, Bool, true, false, cond}
use Rattle.std.specs.List.{AllByRecursion, Contains, sum_by}
use Rattle.std.specs.Ordering.{int_eq}
use Rattle.std.proofs.lemmas.Bool.{cases_eq, cases_Bool}
use Rattle.std.proofs.lemmas.Int.{ints}
use Rattle.kh_types.specs.Rank.{inverse, minus_mod, rank}
use Rattle.kh_types.specs.Residues.{HasInverses, Same}
use Rattle.kh_types.proofs.Residues.{same-equal}
use Rattle.cell_laws.specs.Alike.{AreListed}
use Rattle.cell_laws.specs.Cells.{AreComplex, Cells, cells_at, differential_at, dimension_at, has_both, table_of}
use Rattle.cell_laws.specs.Elimination.{ArePivots, all_of, cells_left, eliminated, way_back}
use Rattle.cell_laws.specs.Filtered.{AreFiltered}
use Rattle.cell_laws.specs.LevelParts.{level_coefficient, level_part}
use Rattle.cell_laws.proofs.AlikeComplexes.{dimension-left_any}
use Rattle.cell_laws.proofs.LeftCells.{both-decides}
use Rattle.cell_laws.proofs.Members.{Contains-first, Contains-kept, Contains-later, sum_by-members, sum_by-nothing}
use Rattle.cell_laws.proofs.WaysBack.{head-of_all, rest-of_all, tail-of_all}

-- what a coefficient of the level part is
module _ {A : Type 0} (cells : Cells A) where
  pub level-equal : (x y : A) → cells.quantum x ≡ cells.quantum y → level_coefficient cells x y ≡ cells.coefficient x y
  level-equal x y same = grind (arith, nat_tests, ints)

  pub level-zero : (x y : A) → cells.coefficient x y ≡ 0 → level_coefficient cells x y ≡ 0
  level-zero x y none = grind (arith, nat_tests)

  pub level-some : (x y : A) → level_coefficient cells x y ≢ 0 → (cells.quantum x ≡ cells.quantum y) × (cells.coefficient x y ≢ 0)
  level-some x y some = by (cells.quantum x) (cells.quantum y) (cells.coefficient x y) some
    where
      by : (q r : ℤ) (n : ℕ) → cond (int_eq q r) n 0 ≢ 0 → (q ≡ r) × (n ≢ 0)
      by q r n some = grind (arith, nat_tests, ints)

-- products with a factor 0
first-none : (m n : ℕ) → m ≡ 0 → m * n ≡ 0
first-none m n none = ap (λ k. k * n) none ∙ omega arith

second-none : (m n : ℕ) → n ≡ 0 → m * n ≡ 0
second-none m n none = ap (λ k. m * k) none ∙ omega arith

-- tables of coefficients that are equal from each tail to each head
map-members : {A B : Type 0} (f g : A → B) (xs : List A) → ((x : A) → Contains xs x → f x ≡ g x) → map f xs ≡ map g xs
map-members f g [] same = refl
map-members f g (x ∷ xs) same =
    ap₂ (λ y ys. y ∷ ys) (same x (Contains-first x xs)) (map-members f g xs (λ y has. same y (Contains-later x y xs has)))

table-members : {A : Type 0} (c d : A → A → ℕ) (tails heads : List A)
    → ((x y : A) → Contains tails x → Contains heads y → c x y ≡ d x y) → table_of c tails heads ≡ table_of d tails heads
table-members c d tails heads same =
    map-members (λ y. map (λ x. c x y) tails) (λ y. map (λ x. d x y) tails) heads
    (λ y has_y. map-members (λ x. c x y) (λ x. d x y) tails (λ x has_x. same x y has_x has_y))

-- dimensions read the coefficients between equal quantum degrees alone
module _ {A : Type 0} (cells : Cells A) (other : A → A → ℕ)
    (same : (x y : A) → Contains cells.list x → Contains cells.list y → cells.quantum x ≡ cells.quantum y
    → other x y ≡ cells.coefficient x y) where
  abbrev others : Cells A
  others =
      record { list = cells.list; homological = cells.homological; quantum = cells.quantum; coefficient = other }

  differential-level : (i j : ℤ) → differential_at others i j ≡ differential_at cells i j
  differential-level i j =
      table-members other cells.coefficient (cells_at cells i j) (cells_at cells (i +ℤ pos 1) j)
      (λ x y has_x has_y.
      let kept_x = Contains-kept (has_both cells i j) cells.list x has_x in
      let kept_y = Contains-kept (has_both cells (i +ℤ pos 1) j) cells.list y has_y in
      same x y kept_x.0 kept_y.0
      ((both-decides cells i j x kept_x.1).1 ∙ sym (both-decides cells (i +ℤ pos 1) j y kept_y.1).1))

  pub dimension-equal : (p : ℕ) (i j : ℤ) → dimension_at p others i j ≡ dimension_at p cells i j
  dimension-equal p i j =
      ap₂ (λ m n. length (cells_at cells i j) - m - n) (ap (rank p) (differential-level i j))
      (ap (rank p) (differential-level (i -ℤ pos 1) j))

pub dimension-level : {A : Type 0} (p : ℕ) (cells : Cells A) (i j : ℤ)
    → dimension_at p (level_part cells) i j ≡ dimension_at p cells i j
dimension-level p cells i j =
    dimension-equal cells (level_coefficient cells) (λ x y has_x has_y same. level-equal cells x y same) p i j

module _ {A : Type 0} (p : ℕ) (cells : Cells A) (filtered : AreFiltered p cells) where
  abbrev c : A → A → ℕ
  c x y = cells.coefficient x y

  abbrev l : A → A → ℕ
  l x y = level_coefficient cells x y

  -- two steps between equal degrees, and between others
  steps-level : (x y z : A) → Contains cells.list x → Contains cells.list y → Contains cells.list z
      → cells.quantum x ≡ cells.quantum z → l x y * l y z ≡ c x y * c y z
  steps-level x y z has_x has_y has_z same = elim (cases_eq (c x y) 0) [
    | inl none ↦ first-none (l x y) (l y z) (level-zero cells x y none) ∙ sym (first-none (c x y) (c y z) none)
    | inr first ↦ elim (cases_eq (c y z) 0) [
      | inl none ↦ second-none (l x y) (l y z) (level-zero cells y z none) ∙ sym (second-none (c x y) (c y z) none)
      | inr second ↦
          let up = filtered.quantum x y has_x has_y first in
          let on = filtered.quantum y z has_y has_z second in
          ap₂ (λ m n. m * n) (level-equal cells x y (omega (arith, ints, up, on, same)))
          (level-equal cells y z (omega (arith, ints, up, on, same)))
    ]
  ]

  steps-apart : (x y z : A) → cells.quantum x ≢ cells.quantum z → l x y * l y z ≡ 0
  steps-apart x y z apart = elim (cases_eq (l x y) 0) [
    | inl none ↦ first-none (l x y) (l y z) none
    | inr first ↦ elim (cases_eq (l y z) 0) [
      | inl none ↦ second-none (l x y) (l y z) none
      | inr second ↦ absurd (apart ((level-some cells x y first).0 ∙ (level-some cells y z second).0))
    ]
  ]

  squares-level : (x z : A) → Contains cells.list x → Contains cells.list z → Same p (sum_by (λ y. l x y * l y z) cells.list) 0
  squares-level x z has_x has_z = elim (cases_Bool (int_eq (cells.quantum x) (cells.quantum z))) [
    | inl level ↦
        same-equal p (sum_by (λ y. l x y * l y z) cells.list) (sum_by (λ y. c x y * c y z) cells.list)
        (sum_by-members (λ y. l x y * l y z) (λ y. c x y * c y z) cells.list
        (λ y has_y. steps-level x y z has_x has_y has_z (equal (cells.quantum x) (cells.quantum z) level)))
        ∙ filtered.squares x z has_x has_z
    | inr apart ↦
        sum_by-nothing p (λ y. l x y * l y z) cells.list
        (λ y has_y. same-equal p (l x y * l y z) 0 (steps-apart x y z (differ (cells.quantum x) (cells.quantum z) apart)))
  ]
    where
      equal : (q r : ℤ) → int_eq q r ≡ true → q ≡ r
      equal q r is = grind (arith, nat_tests, ints)

      differ : (q r : ℤ) → int_eq q r ≡ false → q ≢ r
      differ q r is = grind (arith, nat_tests, ints)

  pub complex-level : AreComplex p (level_part cells)
  complex-level =
      record {
        below = λ x y. below (int_eq (cells.quantum x) (cells.quantum y)) (c x y) (filtered.below x y);
        homological = λ x y has_x has_y some. filtered.homological x y has_x has_y (level-some cells x y some).1;
        quantum = λ x y has_x has_y some. sym (level-some cells x y some).0;
        squares = squares-level;
      }
    where
      below : (b : Bool) (n : ℕ) → n < p → cond b n 0 < p
      below true n less = less
      below false n less = omega (arith, less)

  -- pivots between equal degrees
  module _ (pairs : List (A × A)) (rest : List A) (listed : AreListed (λ (x : A). x) cells.list (all_of pairs rest))
      (level : (pair : A × A) → Contains pairs pair → cells.quantum pair.1 ≡ cells.quantum pair.0) where
    has-tail : (pair : A × A) → Contains pairs pair → Contains cells.list pair.0
    has-tail pair has = let found = listed.back pair.0 (tail-of_all pairs rest pair has) in subst (Contains cells.list) found.2 found.1

    has-head : (pair : A × A) → Contains pairs pair → Contains cells.list pair.1
    has-head pair has = let found = listed.back pair.1 (head-of_all pairs rest pair has) in subst (Contains cells.list) found.2 found.1

    has-rest : (x : A) → Contains rest x → Contains cells.list x
    has-rest x has = let found = listed.back x (rest-of_all pairs rest x has) in subst (Contains cells.list) found.2 found.1

    way-level : (x y : A) → Contains cells.list x → Contains cells.list y → cells.quantum x ≡ cells.quantum y
        → (pair : A × A) → Contains pairs pair → way_back p l x y pair ≡ way_back p c x y pair
    way-level x y has_x has_y same pair has =
        let a = pair.0 in
        let b = pair.1 in
        let here = level pair has in
        let pivot : l a b ≡ c a b = level-equal cells a b (sym here) in
        elim (cases_eq (c x b) 0) [
          | inl none ↦
              first-none (l x b) (inverse p (l a b) * l a y) (level-zero cells x b none)
              ∙ sym (first-none (c x b) (inverse p (c a b) * c a y) none)
          | inr first ↦ elim (cases_eq (c a y) 0) [
            | inl none ↦
                second-none (l x b) (inverse p (l a b) * l a y) (second-none (inverse p (l a b)) (l a y) (level-zero cells a y none))
                ∙ sym (second-none (c x b) (inverse p (c a b) * c a y) (second-none (inverse p (c a b)) (c a y) none))
            | inr second ↦
                let up = filtered.quantum x b has_x (has-head pair has) first in
                let on = filtered.quantum a y (has-tail pair has) has_y second in
                ap₂ (λ m n. m * (inverse p (l a b) * n)) (level-equal cells x b (omega (arith, ints, up, on, same, here)))
                (level-equal cells a y (omega (arith, ints, up, on, same, here)))
                ∙ ap (λ n. c x b * (inverse p n * c a y)) pivot
          ]
        ]

    pub eliminated-level : (x y : A) → Contains cells.list x → Contains cells.list y → cells.quantum x ≡ cells.quantum y
        → eliminated p (level_coefficient cells) pairs x y ≡ eliminated p cells.coefficient pairs x y
    eliminated-level x y has_x has_y same =
        ap₂ (minus_mod p) (level-equal cells x y same)
        (sum_by-members (way_back p l x y) (way_back p c x y) pairs (way-level x y has_x has_y same))

    apart-level : (q : A × A) (qs : List (A × A)) → AllByRecursion (λ other. (c q.0 other.1 ≡ 0) × (c other.0 q.1 ≡ 0)) qs
        → AllByRecursion (λ other. (l q.0 other.1 ≡ 0) × (l other.0 q.1 ≡ 0)) qs
    apart-level q [] apart = tt
    apart-level q (other ∷ qs) apart =
        ((level-zero cells q.0 other.1 apart.0.0, level-zero cells other.0 q.1 apart.0.1), apart-level q qs apart.1)

    pivots-level : (qs : List (A × A)) → ((q : A × A) → Contains qs q → Contains pairs q) → ArePivots c qs → ArePivots l qs
    pivots-level [] within are = tt
    pivots-level (q ∷ qs) within are = (
      λ none. are.0 (sym (level-equal cells q.0 q.1 (sym (level q (within q (Contains-first q qs))))) ∙ none),
      apart-level q qs are.1,
      pivots-level qs (λ r has. within r (Contains-later q r qs has)) are.2,
    )

    pub dimension-left_level : HasInverses p → ArePivots cells.coefficient pairs → (i j : ℤ)
        → dimension_at p (cells_left p cells pairs rest) i j ≡ dimension_at p cells i j
    dimension-left_level field are i j =
        sym (dimension-equal (cells_left p cells pairs rest) (eliminated p (level_coefficient cells) pairs)
        (λ x y has_x has_y same. eliminated-level x y (has-rest x has_x) (has-rest y has_y) same) p i j)
        ∙ dimension-left_any p (level_part cells) pairs rest field complex-level listed (pivots-level pairs (λ q has. has) are) i j
        ∙ dimension-level p cells i j
