-- Sums over pivots, and what the elimination of pivots makes of coefficients.
--
-- The way through a pivot goes from a cell to the pivot's head, back to its tail, and on. The elimination takes from each entry the sum of
-- its ways through all pivots. Where pivots do not meet, the entry of a head or of a tail becomes 0, as its one way is the entry itself,
-- and what is left of two steps is the product less ways that cancel.
use Rattle.std.proofs.lemmas.Bool.Decides.{nat_tests}
use Rattle.std.proofs.Common.{◌≡◌, ◌≢◌, ℕ, ◌⊎◌, inl, inr, ◌+◌, ◌*◌, ◌<◌, ◌∙◌, List, [], ◌∷◌, ◌++◌, map, refl, sym, ap, ap₂, arith}
use Rattle.std.specs.List.{Contains, sum_by}
use Rattle.std.proofs.lemmas.List.Elements.{Contains-append_cases, Contains-append_left, Contains-append_right}
use Rattle.std.proofs.lemmas.List.Sums.{sum_by-append, sum_by-cons}
use Rattle.kh_types.specs.Rank.{inverse}
use Rattle.kh_types.specs.Residues.{HasInverses, Same}
use Rattle.kh_types.proofs.Lists.{Contains-map, Contains-cases, AllByRecursion-at}
use Rattle.kh_types.proofs.ListSums.{sum_by-alike, sum_by-map, sum_by-plus, sum_by-times, sum_by-turned}
use Rattle.kh_types.proofs.PlainRank.{other-below}
use Rattle.kh_types.proofs.Reduced.{minus_mod-added}
use Rattle.kh_types.proofs.Residues.{same-add, same-cancel, same-equal, same-inverse, same-mul, same-rest, same-scaled, same-unit_left, same-unit_right}
use Rattle.cell_laws.specs.Elimination.{ArePivots, all_of, eliminated, way_back}
use Rattle.cell_laws.proofs.Members.{Contains-made, sum_by-members, sum_by-nothing, sum_by-same}

-- an element of all: a tail, a head, or another
abbrev pub IsOneOf : {A : Type 0} → List (A × A) → List A → A → Type 0
IsOneOf {A} pairs rest x =
    ((pair : A × A) × Contains pairs pair × (pair.0 ≡ x)) ⊎ (((pair : A × A) × Contains pairs pair × (pair.1 ≡ x)) ⊎ Contains rest x)

pub one_of : {A : Type 0} (pairs : List (A × A)) (rest : List A) (x : A) → Contains (all_of pairs rest) x → IsOneOf pairs rest x
one_of {A} pairs rest x has =
    elim (Contains-append_cases (map (λ pair. pair.0) pairs) (map (λ pair. pair.1) pairs ++ rest) x has) [
      | inl tail ↦ inl (Contains-made (λ pair. pair.0) pairs x tail)
      | inr others ↦ elim (Contains-append_cases (map (λ pair. pair.1) pairs) rest x others) [
        | inl head ↦ inr (inl (Contains-made (λ pair. pair.1) pairs x head))
        | inr other ↦ inr (inr other)
      ]
    ]

pub tail-of_all : {A : Type 0} (pairs : List (A × A)) (rest : List A) (pair : A × A) → Contains pairs pair
    → Contains (all_of pairs rest) pair.0
tail-of_all pairs rest pair has =
    Contains-append_left (map (λ q. q.0) pairs) (map (λ q. q.1) pairs ++ rest) pair.0 (Contains-map (λ q. q.0) pairs pair has)

pub head-of_all : {A : Type 0} (pairs : List (A × A)) (rest : List A) (pair : A × A) → Contains pairs pair
    → Contains (all_of pairs rest) pair.1
head-of_all pairs rest pair has =
    Contains-append_right (map (λ q. q.0) pairs) (map (λ q. q.1) pairs ++ rest) pair.1
    (Contains-append_left (map (λ q. q.1) pairs) rest pair.1 (Contains-map (λ q. q.1) pairs pair has))

pub rest-of_all : {A : Type 0} (pairs : List (A × A)) (rest : List A) (x : A) → Contains rest x → Contains (all_of pairs rest) x
rest-of_all pairs rest x has = grind (arith, nat_tests, Contains-append_right)

pub sum_by-all_of : {A : Type 0} (f : A → ℕ) (pairs : List (A × A)) (rest : List A)
    → sum_by f (all_of pairs rest) ≡ sum_by (λ pair. f pair.0) pairs + (sum_by (λ pair. f pair.1) pairs + sum_by f rest)
sum_by-all_of f pairs rest = grind (arith, nat_tests, sum_by-append, sum_by-map)

module _ {A : Type 0} (c : A → A → ℕ) where
  pub pivot-other : (pairs : List (A × A)) (pair : A × A) → ArePivots c pairs → Contains pairs pair → c pair.0 pair.1 ≢ 0
  pivot-other [] pair are has = absurd (omega (arith, has.1))
  pivot-other (q ∷ qs) pair are has = elim (Contains-cases q pair qs has) [
    | inl is ↦ λ none. are.0 (ap (λ (r : A × A). c r.0 r.1) is ∙ none)
    | inr later ↦ pivot-other qs pair are.2 later
  ]

  times_zero : (a b : ℕ) → b ≡ 0 → a * b ≡ 0
  times_zero a b is = ap (λ n. a * n) is ∙ omega arith

  zero_times : (a b : ℕ) → a ≡ 0 → a * b ≡ 0
  zero_times a b is = ap (λ n. n * b) is ∙ omega arith

  plus_zero : (a : ℕ) → a + 0 ≡ a
  plus_zero a = omega arith

  zero_plus : (a : ℕ) → 0 + a ≡ a
  zero_plus a = omega arith

  sum_by-zero_terms : (xs : List (A × A)) → sum_by (λ r. 0) xs ≡ 0
  sum_by-zero_terms [] = refl
  sum_by-zero_terms (x ∷ xs) = sum_by-cons (λ r. 0) x xs ∙ omega (arith, sum_by-zero_terms xs)

  abbrev AreApart : A × A → A × A → Type 0
  AreApart q other = (c q.0 other.1 ≡ 0) × (c other.0 q.1 ≡ 0)

  -- of a sum over pivots with the coefficients to one of the heads, one term counts
  pub sum-to_head : (pairs : List (A × A)) (pair : A × A) (g : A × A → ℕ) → ArePivots c pairs → Contains pairs pair
      → sum_by (λ q. g q * c q.0 pair.1) pairs ≡ g pair * c pair.0 pair.1
  sum-to_head [] pair g are has = absurd (omega (arith, has.1))
  sum-to_head (q ∷ qs) pair g are has = elim (Contains-cases q pair qs has) [
    | inl is ↦
        sum_by-cons (λ r. g r * c r.0 pair.1) q qs
        ∙ ap (λ n. g q * c q.0 pair.1 + n)
        (sum_by-members (λ r. g r * c r.0 pair.1) (λ r. 0) qs
        (λ r has. ap (λ (h : A × A). g r * c r.0 h.1) (sym is)
        ∙ times_zero (g r) (c r.0 q.1) (AllByRecursion-at (AreApart q) qs r are.1 has).1)
        ∙ sum_by-zero_terms qs)
        ∙ plus_zero (g q * c q.0 pair.1)
        ∙ ap (λ (r : A × A). g r * c r.0 pair.1) is
    | inr later ↦
        sum_by-cons (λ r. g r * c r.0 pair.1) q qs
        ∙ ap₂ (λ m n. m + n) (times_zero (g q) (c q.0 pair.1) (AllByRecursion-at (AreApart q) qs pair are.1 later).0)
        (sum-to_head qs pair g are.2 later)
        ∙ zero_plus (g pair * c pair.0 pair.1)
  ]

  -- and of one with those from one of the tails
  pub sum-from_tail : (pairs : List (A × A)) (pair : A × A) (g : A × A → ℕ) → ArePivots c pairs → Contains pairs pair
      → sum_by (λ q. c pair.0 q.1 * g q) pairs ≡ c pair.0 pair.1 * g pair
  sum-from_tail [] pair g are has = absurd (omega (arith, has.1))
  sum-from_tail (q ∷ qs) pair g are has = elim (Contains-cases q pair qs has) [
    | inl is ↦
        sum_by-cons (λ r. c pair.0 r.1 * g r) q qs
        ∙ ap (λ n. c pair.0 q.1 * g q + n)
        (sum_by-members (λ r. c pair.0 r.1 * g r) (λ r. 0) qs
        (λ r has. ap (λ (h : A × A). c h.0 r.1 * g r) (sym is)
        ∙ zero_times (c q.0 r.1) (g r) (AllByRecursion-at (AreApart q) qs r are.1 has).0)
        ∙ sum_by-zero_terms qs)
        ∙ plus_zero (c pair.0 q.1 * g q)
        ∙ ap (λ (r : A × A). c pair.0 r.1 * g r) is
    | inr later ↦
        sum_by-cons (λ r. c pair.0 r.1 * g r) q qs
        ∙ ap₂ (λ m n. m + n) (zero_times (c pair.0 q.1) (g q) (AllByRecursion-at (AreApart q) qs pair are.1 later).1)
        (sum-from_tail qs pair g are.2 later)
        ∙ zero_plus (c pair.0 pair.1 * g pair)
  ]

-- what is left of coefficients
module _ {A : Type 0} (p : ℕ) (c : A → A → ℕ) (pairs : List (A × A)) (field : HasInverses p) (below : (x y : A) → c x y < p)
    (are : ArePivots c pairs) where
  abbrev e : A → A → ℕ
  e x y = eliminated p c pairs x y

  abbrev ways : A → A → ℕ
  ways x y = sum_by (way_back p c x y) pairs

  abbrev inverse_of : A × A → ℕ
  inverse_of pair = inverse p (c pair.0 pair.1)

  positive : 0 < p
  positive = omega (arith, field.above_one)

  -- what is left and what went away are the coefficient together
  pub left-added : (x y : A) → Same p (ways x y + e x y) (c x y)
  left-added x y = minus_mod-added p (c x y) (ways x y) positive

  pub inverts : (pair : A × A) → Contains pairs pair → Same p (c pair.0 pair.1 * inverse_of pair) 1
  inverts pair has =
      same-inverse p (c pair.0 pair.1) field
      (other-below p (c pair.0 pair.1) (below pair.0 pair.1) (pivot-other c pairs pair are has))

  nothing-left : (x y : A) → Same p (ways x y) (c x y) → Same p (e x y) 0
  nothing-left x y all =
      same-cancel p (e x y) 0 (c x y) positive
      (same-equal p (e x y + c x y) (c x y + e x y) (omega arith)
      ∙ same-add p (c x y) (ways x y) (e x y) (e x y) (sym all) refl
      ∙ left-added x y ∙ same-equal p (c x y) (0 + c x y) (omega arith))

  -- to a pivot's head nothing is left, and from a pivot's tail
  pub left-to_head : (x : A) (pair : A × A) → Contains pairs pair → Same p (e x pair.1) 0
  left-to_head x pair has =
      nothing-left x pair.1
      (same-equal p (ways x pair.1) (c x pair.1 * inverse_of pair * c pair.0 pair.1)
      (sum_by-alike (way_back p c x pair.1) (λ q. c x q.1 * inverse_of q * c q.0 pair.1)
      (λ q. regrouped (c x q.1) (inverse_of q) (c q.0 pair.1)) pairs
      ∙ sum-to_head c pairs pair (λ q. c x q.1 * inverse_of q) are has)
      ∙ same-equal p (c x pair.1 * inverse_of pair * c pair.0 pair.1) (c x pair.1 * (inverse_of pair * c pair.0 pair.1))
      (sym (regrouped (c x pair.1) (inverse_of pair) (c pair.0 pair.1)))
      ∙ same-unit_right p (c pair.0 pair.1) (inverse_of pair) (c x pair.1) (inverts pair has))
    where
      regrouped : (a b d : ℕ) → a * (b * d) ≡ a * b * d
      regrouped a b d = omega arith

  pub left-from_tail : (pair : A × A) (y : A) → Contains pairs pair → Same p (e pair.0 y) 0
  left-from_tail pair y has =
      nothing-left pair.0 y
      (same-equal p (ways pair.0 y) (c pair.0 pair.1 * (inverse_of pair * c pair.0 y))
      (sum-from_tail c pairs pair (λ q. inverse_of q * c q.0 y) are has)
      ∙ same-unit_left p (c pair.0 pair.1) (inverse_of pair) (c pair.0 y) (inverts pair has))

  -- sums over all along two steps, of which one is what is left: they are 0 where the others are
  pub sum-left_first : (xs : List A) (x : A) (k : A → ℕ) → Same p (sum_by (λ u. c x u * k u) xs) 0
      → ((pair : A × A) → Contains pairs pair → Same p (sum_by (λ u. c pair.0 u * k u) xs) 0)
      → Same p (sum_by (λ u. e x u * k u) xs) 0
  sum-left_first xs x k none none_from =
      let back = λ (q : A × A). c x q.1 * inverse_of q in
      let gone : sum_by (λ u. ways x u * k u) xs ≡ sum_by (λ q. back q * sum_by (λ u. c q.0 u * k u) xs) pairs =
      sum_by-alike (λ u. ways x u * k u) (λ u. sum_by (λ q. back q * (c q.0 u * k u)) pairs)
      (λ u. commuted (ways x u) (k u) ∙ sym (sum_by-times (way_back p c x u) (k u) pairs)
      ∙ sum_by-alike (λ q. k u * way_back p c x u q) (λ q. back q * (c q.0 u * k u))
      (λ q. regrouped (k u) (c x q.1) (inverse_of q) (c q.0 u)) pairs) xs
      ∙ sum_by-turned (λ u q. back q * (c q.0 u * k u)) xs pairs
      ∙ sum_by-alike (λ q. sum_by (λ u. back q * (c q.0 u * k u)) xs) (λ q. back q * sum_by (λ u. c q.0 u * k u) xs)
      (λ q. sum_by-times (λ u. c q.0 u * k u) (back q) xs) pairs in
      same-rest p (sum_by (λ u. ways x u * k u) xs) (sum_by (λ u. e x u * k u) xs) 0
      (same-equal p (sum_by (λ u. ways x u * k u) xs) (sum_by (λ q. back q * sum_by (λ u. c q.0 u * k u) xs) pairs) gone
      ∙ sum_by-nothing p (λ q. back q * sum_by (λ u. c q.0 u * k u) xs) pairs
      (λ q has. times_none (back q) (sum_by (λ u. c q.0 u * k u) xs) (none_from q has)))
      (same-equal p (sum_by (λ u. ways x u * k u) xs + sum_by (λ u. e x u * k u) xs) (sum_by (λ u. (ways x u + e x u) * k u) xs)
      (sym (sum_by-plus (λ u. ways x u * k u) (λ u. e x u * k u) xs)
      ∙ sum_by-alike (λ u. ways x u * k u + e x u * k u) (λ u. (ways x u + e x u) * k u)
      (λ u. together (ways x u) (e x u) (k u)) xs)
      ∙ sum_by-same p (λ u. (ways x u + e x u) * k u) (λ u. c x u * k u) xs
      (λ u has. same-mul p (ways x u + e x u) (c x u) (k u) (k u) (left-added x u) refl)
      ∙ none)
    where
      commuted : (a b : ℕ) → a * b ≡ b * a
      commuted a b = omega arith

      regrouped : (k a b d : ℕ) → k * (a * (b * d)) ≡ a * b * (d * k)
      regrouped k a b d = omega arith

      together : (a b k : ℕ) → a * k + b * k ≡ (a + b) * k
      together a b k = omega arith

      times_none : (a b : ℕ) → Same p b 0 → Same p (a * b) 0
      times_none a b none = same-scaled p a b 0 none ∙ same-equal p (a * 0) 0 (omega arith)

  pub sum-left_second : (xs : List A) (y : A) (k : A → ℕ) → Same p (sum_by (λ u. k u * c u y) xs) 0
      → ((pair : A × A) → Contains pairs pair → Same p (sum_by (λ u. k u * c u pair.1) xs) 0)
      → Same p (sum_by (λ u. k u * e u y) xs) 0
  sum-left_second xs y k none none_to =
      let back = λ (q : A × A). inverse_of q * c q.0 y in
      let gone : sum_by (λ u. k u * ways u y) xs ≡ sum_by (λ q. back q * sum_by (λ u. k u * c u q.1) xs) pairs =
      sum_by-alike (λ u. k u * ways u y) (λ u. sum_by (λ q. back q * (k u * c u q.1)) pairs)
      (λ u. sym (sum_by-times (way_back p c u y) (k u) pairs)
      ∙ sum_by-alike (λ q. k u * way_back p c u y q) (λ q. back q * (k u * c u q.1))
      (λ q. regrouped (k u) (c u q.1) (inverse_of q * c q.0 y)) pairs) xs
      ∙ sum_by-turned (λ u q. back q * (k u * c u q.1)) xs pairs
      ∙ sum_by-alike (λ q. sum_by (λ u. back q * (k u * c u q.1)) xs) (λ q. back q * sum_by (λ u. k u * c u q.1) xs)
      (λ q. sum_by-times (λ u. k u * c u q.1) (back q) xs) pairs in
      same-rest p (sum_by (λ u. k u * ways u y) xs) (sum_by (λ u. k u * e u y) xs) 0
      (same-equal p (sum_by (λ u. k u * ways u y) xs) (sum_by (λ q. back q * sum_by (λ u. k u * c u q.1) xs) pairs) gone
      ∙ sum_by-nothing p (λ q. back q * sum_by (λ u. k u * c u q.1) xs) pairs
      (λ q has. times_none (back q) (sum_by (λ u. k u * c u q.1) xs) (none_to q has)))
      (same-equal p (sum_by (λ u. k u * ways u y) xs + sum_by (λ u. k u * e u y) xs) (sum_by (λ u. k u * (ways u y + e u y)) xs)
      (sym (sum_by-plus (λ u. k u * ways u y) (λ u. k u * e u y) xs)
      ∙ sum_by-alike (λ u. k u * ways u y + k u * e u y) (λ u. k u * (ways u y + e u y))
      (λ u. together (ways u y) (e u y) (k u)) xs)
      ∙ sum_by-same p (λ u. k u * (ways u y + e u y)) (λ u. k u * c u y) xs
      (λ u has. same-scaled p (k u) (ways u y + e u y) (c u y) (left-added u y))
      ∙ none)
    where
      regrouped : (k a b : ℕ) → k * (a * b) ≡ b * (k * a)
      regrouped k a b = omega arith

      together : (a b k : ℕ) → k * a + k * b ≡ k * (a + b)
      together a b k = omega arith

      times_none : (a b : ℕ) → Same p b 0 → Same p (a * b) 0
      times_none a b none = same-scaled p a b 0 none ∙ same-equal p (a * 0) 0 (omega arith)
