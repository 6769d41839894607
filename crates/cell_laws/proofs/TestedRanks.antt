-- Ranks between the tails and the heads that two tests pick, before and after an elimination.
--
-- Nothing is left to a pivot's head, nor from its tail. As a head, a pivot's tail is a combination of the heads that are left and lead to
-- its head; as a tail, a pivot's head is one of the tails that are left and to which its tail leads. So where the tests keep those,
-- the rank falls by the number of pivots that pass them, and no more.
use Rattle.std.proofs.Common.{◌≡◌, ◌≢◌, ℕ, ◌⊎◌, inl, inr, ◌+◌, ◌-◌, ◌*◌, ◌%◌, ◌<◌, ◌∙◌, List, length, refl, sym, subst, ap, arith, Bool, true, false}
use Rattle.std.specs.Prelude.{◌&&◌}
use Rattle.std.specs.List.{Contains, filter, sum_by}
use Rattle.std.proofs.lemmas.Bool.{cases_eq}
use Rattle.std.proofs.lemmas.Nat.{mod_below}
use Rattle.kh_types.specs.Complex.{entry_in}
use Rattle.kh_types.specs.MatrixRanks.{HasRank}
use Rattle.kh_types.specs.Rank.{inverse, rank}
use Rattle.kh_types.specs.Residues.{HasInverses, Same}
use Rattle.kh_types.proofs.Lists.{Contains-filter}
use Rattle.kh_types.proofs.ListSums.{sum_by-alike, sum_by-times}
use Rattle.kh_types.proofs.PivotLemmas.{rank-determined, rank-like}
use Rattle.kh_types.proofs.Residues.{same-add, same-equal, same-minus, same-mul, same-scaled, same-unit_right}
use Rattle.plain_matrix.proofs.ScaledRanks.{factors-scaled}
use Rattle.cell_laws.specs.Cells.{table_of}
use Rattle.cell_laws.specs.Elimination.{ArePivots, all_of, eliminated, way_back}
use Rattle.cell_laws.proofs.AlikeCells.{scaled-fewer}
use Rattle.cell_laws.proofs.Members.{Contains-kept, sum_by-kept, sum_by-nothing}
use Rattle.cell_laws.proofs.Tables.{IsCombined, factors-more_heads, factors-more_tails, rank-table}
use Rattle.cell_laws.proofs.WaysBack.{IsOneOf, head-of_all, inverts, left-from_tail, left-to_head, one_of, rest-of_all, sum-from_tail, sum-left_first, sum-left_second, sum-to_head, sum_by-all_of, tail-of_all}
use Rattle.cell_laws.proofs.PlacedPivots.{IsPlaced, rank-placed}

-- what a multiple is, where it and others are 0 together
minus-others : (p x d inv others : ℕ) → 0 < p → Same p (d * inv) 1 → Same p (x * d + others) 0
    → Same p ((p - 1) * (inv * others)) x
minus-others p x d inv others positive unit none =
    same-minus p x (inv * others) positive
    (same-add p x (x * (inv * d)) (inv * others) (inv * others) (sym (same-unit_right p d inv x unit)) refl
    ∙ same-equal p (x * (inv * d) + inv * others) (inv * (x * d + others)) (factored x d inv others)
    ∙ same-scaled p inv (x * d + others) 0 none ∙ same-equal p (inv * 0) 0 (omega arith))
  where
    factored : (x d inv others : ℕ) → x * (inv * d) + inv * others ≡ inv * (x * d + others)
    factored x d inv others = omega arith

regrouped : (m k a b : ℕ) → m * (k * a) * b ≡ m * k * (b * a)
regrouped m k a b = omega arith

swapped : (m k a b : ℕ) → m * (k * a) * b ≡ m * k * (a * b)
swapped m k a b = omega arith

reassociated : (m k s : ℕ) → m * k * s ≡ m * (k * s)
reassociated m k s = omega arith

turned : (a b s : ℕ) → a * b + s ≡ 0 + (b * a + s)
turned a b s = omega arith

-- two tests suit a pair: where a way back leads through it from a tail to a head, it is such a tail and such a head; where its own tail is
-- a head, so is all that leads to its head; and where its head is a tail, so is all to which its tail leads
pub record Suit {A : Type 0} (c : A → A → ℕ) (list : List A) (is_tail is_head : A → Bool) (pair : A × A) : Type 0 where
  pub there : (x y : A) → Contains list x → Contains list y → is_tail x ≡ true → is_head y ≡ true → c x pair.1 ≢ 0 → c pair.0 y ≢ 0
      → (is_tail pair.0 && is_head pair.1) ≡ true
  pub as_head : is_head pair.0 ≡ true → (u : A) → Contains list u → c u pair.1 ≢ 0 → is_head u ≡ true
  pub as_tail : is_tail pair.1 ≡ true → (u : A) → Contains list u → c pair.0 u ≢ 0 → is_tail u ≡ true

module _ {A : Type 0} (p : ℕ) (c : A → A → ℕ) (list : List A) (pairs : List (A × A)) (rest : List A) (field : HasInverses p)
    (below : (x y : A) → c x y < p)
    (squares : (x z : A) → Contains list x → Contains list z → Same p (sum_by (λ y. c x y * c y z) list) 0)
    (listed : list ≡ all_of pairs rest) (are : ArePivots c pairs) where
  abbrev e : A → A → ℕ
  e x y = eliminated p c pairs x y

  positive : 0 < p
  positive = omega (arith, field.above_one)

  abbrev inverse_of : A × A → ℕ
  inverse_of pair = inverse p (c pair.0 pair.1)

  has_tail : (pair : A × A) → Contains pairs pair → Contains list pair.0
  has_tail pair has = subst (λ xs. Contains xs pair.0) (sym listed) (tail-of_all pairs rest pair has)

  has_head : (pair : A × A) → Contains pairs pair → Contains list pair.1
  has_head pair has = subst (λ xs. Contains xs pair.1) (sym listed) (head-of_all pairs rest pair has)

  has_rest : (x : A) → Contains rest x → Contains list x
  has_rest x has = subst (λ xs. Contains xs x) (sym listed) (rest-of_all pairs rest x has)

  is_one_of : (x : A) → Contains list x → IsOneOf pairs rest x
  is_one_of x has = one_of pairs rest x (subst (λ xs. Contains xs x) listed has)

  sum-parts : (f : A → ℕ) → sum_by f list ≡ sum_by (λ pair. f pair.0) pairs + (sum_by (λ pair. f pair.1) pairs + sum_by f rest)
  sum-parts f = ap (λ xs. sum_by f xs) listed ∙ sum_by-all_of f pairs rest

  -- two steps, of which one is what is left
  first-square : (x z : A) → Contains list x → Contains list z → Same p (sum_by (λ u. e x u * c u z) list) 0
  first-square x z has_x has_z =
      sum-left_first p c pairs field below are list x (λ u. c u z) (squares x z has_x has_z)
      (λ pair has. squares pair.0 z (has_tail pair has) has_z)

  second-square : (x z : A) → Contains list x → Contains list z → Same p (sum_by (λ u. c x u * e u z) list) 0
  second-square x z has_x has_z =
      sum-left_second p c pairs field below are list z (λ u. c x u) (squares x z has_x has_z)
      (λ pair has. squares x pair.1 has_x (has_head pair has))

  to_head : (x : A) (pair : A × A) → Contains pairs pair → Same p (e x pair.1) 0
  to_head x pair has = left-to_head p c pairs field below are x pair has

  from_tail : (pair : A × A) (y : A) → Contains pairs pair → Same p (e pair.0 y) 0
  from_tail pair y has = left-from_tail p c pairs field below are pair y has

  none_times : (a b : ℕ) → Same p a 0 → Same p (a * b) 0
  none_times a b none = same-mul p a 0 b b none refl ∙ same-equal p (0 * b) 0 (omega arith)

  times_none : (a b : ℕ) → Same p b 0 → Same p (a * b) 0
  times_none a b none = same-scaled p a b 0 none ∙ same-equal p (a * 0) 0 (omega arith)

  at_odds : (b : Bool) → b ≡ true → b ≡ false → ⊥
  at_odds b is_true is_false = cc

  module _ (is_tail is_head : A → Bool) (suit : (pair : A × A) → Contains pairs pair → Suit c list is_tail is_head pair) where
    -- a pivot's tail as a head is a combination of the heads that are left
    tail-combined : (pair : A × A) → Contains pairs pair → is_head pair.0 ≡ true
        → IsCombined p (eliminated p c pairs) (filter is_tail rest) (filter is_head rest) pair.0
    tail-combined pair has passes =
        let inv = inverse_of pair in (
          λ u. (p - 1) * (inv * c u pair.1),
          λ x has_x.
              let f = λ (u : A). e x u * c u pair.1 in
              let kept = Contains-kept is_tail rest x has_x in
              let by_heads = sum_by (λ (q : A × A). f q.1) pairs in
              let S = sum_by f rest in
              let all : Same p (e x pair.0 * c pair.0 pair.1 + S) 0 =
              same-add p (e x pair.0 * c pair.0 pair.1) (sum_by (λ (q : A × A). f q.0) pairs) S (by_heads + S)
              (same-equal p (e x pair.0 * c pair.0 pair.1) (sum_by (λ (q : A × A). f q.0) pairs)
              (sym (sum-to_head c pairs pair (λ q. e x q.0) are has)))
              (same-equal p S (0 + S) (omega arith)
              ∙ same-add p 0 by_heads S S
              (sym (sum_by-nothing p (λ (q : A × A). f q.1) pairs (λ q has_q. none_times (e x q.1) (c q.1 pair.1) (to_head x q has_q))))
              refl)
              ∙ same-equal p (sum_by (λ (q : A × A). f q.0) pairs + (by_heads + S)) (sum_by f list) (sym (sum-parts f))
              ∙ first-square x pair.1 (has_rest x kept.0) (has_head pair has) in
              same-equal p (sum_by (λ u. (p - 1) * (inv * c u pair.1) * e x u) (filter is_head rest))
              ((p - 1) * (inv * S))
              (sum_by-alike (λ u. (p - 1) * (inv * c u pair.1) * e x u) (λ u. (p - 1) * inv * f u)
              (λ u. regrouped (p - 1) inv (c u pair.1) (e x u)) (filter is_head rest)
              ∙ sum_by-times f ((p - 1) * inv) (filter is_head rest)
              ∙ ap (λ n. (p - 1) * inv * n)
              (sum_by-kept f is_head rest (λ u has_u fails. elim (cases_eq (c u pair.1) 0) [
                | inl none ↦ ap (λ n. e x u * n) none ∙ omega arith
                | inr other ↦ absurd (at_odds (is_head u) ((suit pair has).as_head passes u (has_rest u has_u) other) fails)
              ]))
              ∙ reassociated (p - 1) inv S)
              ∙ minus-others p (e x pair.0) (c pair.0 pair.1) inv S positive (inverts p c pairs field below are pair has) all,
        )

    -- and a pivot's head as a tail one of the tails
    head-combined : (pair : A × A) → Contains pairs pair → is_tail pair.1 ≡ true
        → IsCombined p (λ x y. eliminated p c pairs y x) (filter is_head list) (filter is_tail rest) pair.1
    head-combined pair has passes =
        let inv = inverse_of pair in (
          λ u. (p - 1) * (inv * c pair.0 u),
          λ y has_y.
              let f = λ (u : A). c pair.0 u * e u y in
              let kept = Contains-kept is_head list y has_y in
              let by_tails = sum_by (λ (q : A × A). f q.0) pairs in
              let S = sum_by f rest in
              let own = c pair.0 pair.1 * e pair.1 y in
              let all : Same p (e pair.1 y * c pair.0 pair.1 + S) 0 =
              same-equal p (e pair.1 y * c pair.0 pair.1 + S) (0 + (own + S)) (turned (e pair.1 y) (c pair.0 pair.1) S)
              ∙ same-add p 0 by_tails (own + S) (sum_by (λ (q : A × A). f q.1) pairs + S)
              (sym (sum_by-nothing p (λ (q : A × A). f q.0) pairs (λ q has_q. times_none (c pair.0 q.0) (e q.0 y) (from_tail q y has_q))))
              (same-equal p (own + S) (sum_by (λ (q : A × A). f q.1) pairs + S)
              (ap (λ n. n + S) (sym (sum-from_tail c pairs pair (λ q. e q.1 y) are has))))
              ∙ same-equal p (by_tails + (sum_by (λ (q : A × A). f q.1) pairs + S)) (sum_by f list) (sym (sum-parts f))
              ∙ second-square pair.0 y (has_tail pair has) kept.0 in
              same-equal p (sum_by (λ u. (p - 1) * (inv * c pair.0 u) * e u y) (filter is_tail rest))
              ((p - 1) * (inv * S))
              (sum_by-alike (λ u. (p - 1) * (inv * c pair.0 u) * e u y) (λ u. (p - 1) * inv * f u)
              (λ u. swapped (p - 1) inv (c pair.0 u) (e u y)) (filter is_tail rest)
              ∙ sum_by-times f ((p - 1) * inv) (filter is_tail rest)
              ∙ ap (λ n. (p - 1) * inv * n)
              (sum_by-kept f is_tail rest (λ u has_u fails. elim (cases_eq (c pair.0 u) 0) [
                | inl none ↦ ap (λ n. n * e u y) none ∙ omega arith
                | inr other ↦ absurd (at_odds (is_tail u) ((suit pair has).as_tail passes u (has_rest u has_u) other) fails)
              ]))
              ∙ reassociated (p - 1) inv S)
              ∙ minus-others p (e pair.1 y) (c pair.0 pair.1) inv S positive (inverts p c pairs field below are pair has) all,
        )

    -- nothing is left to a pivot's head, nor from its tail
    head-nothing : (pair : A × A) (tails heads : List A) → Contains pairs pair
        → IsCombined p (eliminated p c pairs) tails heads pair.1
    head-nothing pair tails heads has = (
      λ u. 0,
      λ x has_x.
          sum_by-nothing p (λ u. 0 * e x u) heads (λ u has_u. same-equal p (0 * e x u) 0 (omega arith))
          ∙ sym (to_head x pair has),
    )

    tail-nothing : (pair : A × A) (tails heads : List A) → Contains pairs pair
        → IsCombined p (λ x y. eliminated p c pairs y x) heads tails pair.0
    tail-nothing pair tails heads has = (
      λ u. 0,
      λ y has_y.
          sum_by-nothing p (λ u. 0 * e u y) tails (λ u has_u. same-equal p (0 * e u y) 0 (omega arith))
          ∙ sym (from_tail pair y has),
    )

    -- so all heads and tails have the rank of those that are left
    each_head : (x : A) → Contains (filter is_head list) x → Contains (filter is_head rest) x
        ⊎ IsCombined p (eliminated p c pairs) (filter is_tail rest) (filter is_head rest) x
    each_head x has_x =
        let kept = Contains-kept is_head list x has_x in
        elim (is_one_of x kept.0) [
          | inl tail ↦ inr (subst (λ (u : A). IsCombined p (eliminated p c pairs) (filter is_tail rest) (filter is_head rest) u) tail.2
              (tail-combined tail.0 tail.1 (ap is_head tail.2 ∙ kept.1)))
          | inr others ↦ elim others [
            | inl head ↦ inr (subst (λ (u : A). IsCombined p (eliminated p c pairs) (filter is_tail rest) (filter is_head rest) u) head.2
                (head-nothing head.0 (filter is_tail rest) (filter is_head rest) head.1))
            | inr other ↦ inl (Contains-filter is_head rest x kept.1 other)
          ]
        ]

    each_tail : (x : A) → Contains (filter is_tail list) x → Contains (filter is_tail rest) x
        ⊎ IsCombined p (λ x y. eliminated p c pairs y x) (filter is_head list) (filter is_tail rest) x
    each_tail x has_x =
        let kept = Contains-kept is_tail list x has_x in
        elim (is_one_of x kept.0) [
          | inl tail ↦ inr (subst (λ (u : A). IsCombined p (λ x y. eliminated p c pairs y x) (filter is_head list) (filter is_tail rest) u)
              tail.2 (tail-nothing tail.0 (filter is_tail rest) (filter is_head list) tail.1))
          | inr others ↦ elim others [
            | inl head ↦ inr (subst (λ (u : A). IsCombined p (λ x y. eliminated p c pairs y x) (filter is_head list) (filter is_tail rest) u)
                head.2 (head-combined head.0 head.1 (ap is_tail head.2 ∙ kept.1)))
            | inr other ↦ inl (Contains-filter is_tail rest x kept.1 other)
          ]
        ]

    below-left : (x y : A) → eliminated p c pairs x y < p
    below-left x y = mod_below (c x y + (p - sum_by (way_back p c x y) pairs % p)) p positive

    rank-rest : HasRank p (entry_in (table_of (eliminated p c pairs) (filter is_tail list) (filter is_head list)))
        (rank p (table_of (eliminated p c pairs) (filter is_tail rest) (filter is_head rest)))
    rank-rest =
        let few_tails = filter is_tail rest in
        let few_heads = filter is_head rest in
        let tails = filter is_tail list in
        let heads = filter is_head list in
        let left = eliminated p c pairs in
        let M = entry_in (table_of left few_tails few_heads) in
        let N = entry_in (table_of left tails heads) in
        rank-like p (rank p (table_of left few_tails few_heads)) M N
        (λ s f. factors-more_tails p s left few_tails tails heads each_tail (factors-more_heads p s left few_tails few_heads heads each_head f))
        (λ s. factors-scaled p s M N (scaled-fewer p left few_tails few_heads tails heads
        (λ x has. let kept = Contains-kept is_tail rest x has in Contains-filter is_tail list x kept.1 (has_rest x kept.0))
        (λ x has. let kept = Contains-kept is_head rest x has in Contains-filter is_head list x kept.1 (has_rest x kept.0))))
        (rank-table left few_tails few_heads p field below-left)

    parts : (a b : Bool) → (a && b) ≡ true → (a ≡ true) × (b ≡ true)
    parts true b both = (refl, both)
    parts false b both = absurd (at_odds false both refl)

    abbrev is_there : A × A → Bool
    is_there pair = is_tail pair.0 && is_head pair.1

    placed : (pair : A × A) → Contains pairs pair
        → IsPlaced p c (filter is_tail list) (filter is_head list) (λ pair. is_tail pair.0 && is_head pair.1) pair
    placed pair has =
        record {
          inside = λ there.
              let both = parts (is_tail pair.0) (is_head pair.1) there in (
                Contains-filter is_tail list pair.0 both.0 (has_tail pair has),
                Contains-filter is_head list pair.1 both.1 (has_head pair has),
              );
          outside = λ elsewhere x y has_x has_y.
              let tail = Contains-kept is_tail list x has_x in
              let head = Contains-kept is_head list y has_y in
              elim (cases_eq (c x pair.1) 0) [
                | inl none ↦ ap (λ n. n * (inverse_of pair * c pair.0 y)) none ∙ omega arith
                | inr first ↦ elim (cases_eq (c pair.0 y) 0) [
                  | inl none ↦ ap (λ n. c x pair.1 * (inverse_of pair * n)) none ∙ nothing (c x pair.1) (inverse_of pair)
                  | inr last ↦ absurd (at_odds (is_tail pair.0 && is_head pair.1)
                      ((suit pair has).there x y tail.0 head.0 tail.1 head.1 first last) elsewhere)
                ]
              ];
        }
      where
        nothing : (a b : ℕ) → a * (b * 0) ≡ 0
        nothing a b = omega arith

    pub rank-tested : rank p (table_of c (filter is_tail list) (filter is_head list))
        ≡ length (filter (λ pair. is_tail pair.0 && is_head pair.1) pairs)
        + rank p (table_of (eliminated p c pairs) (filter is_tail rest) (filter is_head rest))
    rank-tested =
        let tails = filter is_tail list in
        let heads = filter is_head list in
        let r = rank p (table_of (eliminated p c pairs) (filter is_tail rest) (filter is_head rest)) in
        let test = λ (pair : A × A). is_tail pair.0 && is_head pair.1 in
        rank-determined p (rank p (table_of c tails heads)) (length (filter test pairs) + r) (entry_in (table_of c tails heads))
        (rank-table c tails heads p field below)
        (rank-placed p c tails heads field below test pairs r are placed rank-rest)
