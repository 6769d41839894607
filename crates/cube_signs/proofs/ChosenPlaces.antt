-- The places of the elements of a list that are chosen, among all and among these. The place of a chosen element among the chosen
-- is how many chosen ones stand before it. Along the list this count never falls, and behind a chosen element it is one more: so
-- no two chosen elements have one place, and at the end it is the number of all that are chosen. By induction on the list, the
-- chosen list has the element there, and each of its places is that of a chosen element of the whole list.
use Rattle.std.proofs.lemmas.Bool.Decides.{nat_tests}
use Rattle.std.proofs.Common.{◌≡◌, ℕ, zero, suc, inl, inr, ◌+◌, ◌-◌, ◌<◌, ◌≤◌, ◌∙◌, List, [], ◌∷◌, length, get_or, take, ap, ap₂, arith, Bool, true, false, cond, refl}
use Rattle.std.specs.List.{filter, range_with_len}
use Rattle.std.specs.Prelude.{slice_index, All}
use Rattle.std.proofs.lemmas.Bool.{cases_Bool, cases_lt}
use Rattle.std.proofs.lemmas.List.{length-take, take_all}
use Rattle.std.proofs.lemmas.List.Elements.{All-map}
use Rattle.std.proofs.lemmas.List.Filters.{length-filter_more}
use Rattle.std.proofs.lemmas.List.FromFn.{get_or-map-range_with_len}
use Rattle.std.proofs.lemmas.List.Sums.{count_by-le-length, length-filter}
use Rattle.kh_types.specs.Generators.{Generator, generator_of}
use Rattle.cube_signs.specs.Chosen.{chosen_before}
use Rattle.cube_signs.specs.ChosenParts.{all_places}

-- a place whose generator is chosen
pub record IsChosen (q : Generator → Bool) (xs : List Generator) (k : ℕ) : Type 0 where
  pub below : k < length xs
  pub passes : q (get_or xs k (generator_of 0 0)) ≡ true

before-step : (q : Generator → Bool) (xs : List Generator) (k : ℕ) → k < length xs → chosen_before q xs k ≤ chosen_before q xs (k + 1)
before-step q xs k below = omega (arith, length-filter_more q xs k (generator_of 0 0) below)

pub before-next : (q : Generator → Bool) (xs : List Generator) (k : ℕ) → IsChosen q xs k
    → chosen_before q xs (k + 1) ≡ chosen_before q xs k + 1
before-next q xs k is =
    length-filter_more q xs k (generator_of 0 0) is.below ∙ ap (λ b. chosen_before q xs k + cond b 1 0) is.passes

before-up : (q : Generator → Bool) (xs : List Generator) (a k : ℕ) → a + k ≤ length xs
    → chosen_before q xs a ≤ chosen_before q xs (a + k)
before-up q xs a zero within =
    let e : a ≡ a + 0 = omega arith in
    omega (arith, ap (chosen_before q xs) e)
before-up q xs a (suc k) within =
    let e : a + suc k ≡ a + k + 1 = omega arith in
    omega (
      arith,
      before-up q xs a k (omega (arith, within)),
      before-step q xs (a + k) (omega (arith, within)),
      ap (chosen_before q xs) e,
    )

pub before-le : (q : Generator → Bool) (xs : List Generator) (a k : ℕ) → a ≤ k → k ≤ length xs
    → chosen_before q xs a ≤ chosen_before q xs k
before-le q xs a k order within =
    let e : a + (k - a) ≡ k = omega (arith, order) in
    omega (arith, before-up q xs a (k - a) (omega (arith, e, within)), ap (chosen_before q xs) e)

before-order : (q : Generator → Bool) (xs : List Generator) (k m : ℕ) → IsChosen q xs k → k < m → m ≤ length xs
    → chosen_before q xs k < chosen_before q xs m
before-order q xs k m is less within =
    omega (arith, before-next q xs k is, before-le q xs (k + 1) m (omega (arith, less)) within)

-- no two that are chosen have one place
pub before-one : (q : Generator → Bool) (xs : List Generator) (k m : ℕ) → IsChosen q xs k → IsChosen q xs m
    → chosen_before q xs k ≡ chosen_before q xs m → k ≡ m
before-one q xs k m is other same = elim (cases_lt k m) [
  | inl less ↦ absurd (omega (arith, same, before-order q xs k m is less (omega (arith, other.below))))
  | inr not_less ↦ elim (cases_lt m k) [
    | inl more ↦ absurd (omega (arith, same, before-order q xs m k other more (omega (arith, is.below))))
    | inr not_more ↦ omega arith
  ]
]

pub before-small : (q : Generator → Bool) (xs : List Generator) (k : ℕ) → chosen_before q xs k ≤ length xs
before-small q xs k = grind (arith, nat_tests, length-filter, count_by-le-length, length-take)

pub places-small : (q : Generator → Bool) (xs : List Generator) (most : ℕ) → length xs < most → All (λ n. n < most) (all_places q xs)
places-small q xs most few =
    All-map (λ n. n < most) (chosen_before q xs) (range_with_len 0 (length xs))
    (λ k d within. omega (arith, few, before-small q xs (get_or (range_with_len 0 (length xs)) k d)))

pub before-all : (q : Generator → Bool) (xs : List Generator) → chosen_before q xs (length xs) ≡ length (filter q xs)
before-all q xs = ap (λ ys. length (filter q ys)) (take_all (length xs) xs (omega arith))

pub places-at : (q : Generator → Bool) (xs : List Generator) (k : ℕ) → k < length xs
    → slice_index (all_places q xs) k ≡ chosen_before q xs k
places-at q xs k below = get_or-map-range_with_len (chosen_before q xs) 0 (length xs) k k 0 below (omega arith)

-- the place of a chosen element among those that are chosen
pub record IsKept {X : Type 0} (q : X → Bool) (xs : List X) (k : ℕ) (d : X) : Type 0 where
  pub below : length (filter q (take k xs)) < length (filter q xs)
  pub there : get_or (filter q xs) (length (filter q (take k xs))) d ≡ get_or xs k d

pub kept-at : {X : Type 0} (q : X → Bool) (xs : List X) (k : ℕ) (d : X) → k < length xs → q (get_or xs k d) ≡ true → IsKept q xs k d
kept-at q [] k d below passes = absurd (omega (arith, below))
kept-at q (x ∷ xs) zero d below passes =
    let size : length (filter q (x ∷ xs)) ≡ suc (length (filter q xs)) =
    ap (λ b. length (cond b (x ∷ filter q xs) (filter q xs))) passes in
    record {
      below = omega (arith, size);
      there = ap (λ b. get_or (cond b (x ∷ filter q xs) (filter q xs)) 0 d) passes;
    }
kept-at q (x ∷ xs) (suc k) d below passes =
    let rest = kept-at q xs k d (omega (arith, below)) passes in
    let all = filter q xs in
    let front = filter q (take k xs) in
    elim (cases_Bool (q x)) [
      | inl first ↦
          let size : length (filter q (x ∷ xs)) ≡ suc (length all) = ap (λ b. length (cond b (x ∷ all) all)) first in
          let before : length (filter q (take (suc k) (x ∷ xs))) ≡ suc (length front) =
          ap (λ b. length (cond b (x ∷ front) front)) first in
          record {
            below = omega (arith, size, before, rest.below);
            there = ap₂ (λ b n. get_or (cond b (x ∷ all) all) n d) first before ∙ rest.there;
          }
      | inr other ↦
          let size : length (filter q (x ∷ xs)) ≡ length all = ap (λ b. length (cond b (x ∷ all) all)) other in
          let before : length (filter q (take (suc k) (x ∷ xs))) ≡ length front =
          ap (λ b. length (cond b (x ∷ front) front)) other in
          record {
            below = omega (arith, size, before, rest.below);
            there = ap₂ (λ b n. get_or (cond b (x ∷ all) all) n d) other before ∙ rest.there;
          }
    ]

-- each place among the chosen is that of one of all
pub record HasOrigin {X : Type 0} (q : X → Bool) (xs : List X) (row : ℕ) (d : X) : Type 0 where
  pub k : ℕ
  pub below : k < length xs
  pub passes : q (get_or xs k d) ≡ true
  pub is : length (filter q (take k xs)) ≡ row

-- behind an element that is not chosen, and behind one that is
origin-other : {X : Type 0} (q : X → Bool) (x : X) (xs : List X) (row : ℕ) (d : X) → q x ≡ false → HasOrigin q xs row d
    → HasOrigin q (x ∷ xs) row d
origin-other q x xs row d other rest =
    let front = filter q (take rest.k xs) in
    record {
      k = suc rest.k;
      below = omega (arith, rest.below);
      passes = rest.passes;
      is = ap (λ b. length (cond b (x ∷ front) front)) other ∙ rest.is;
    }

origin-next : {X : Type 0} (q : X → Bool) (x : X) (xs : List X) (row : ℕ) (d : X) → q x ≡ true → HasOrigin q xs row d
    → HasOrigin q (x ∷ xs) (suc row) d
origin-next q x xs row d first rest =
    let front = filter q (take rest.k xs) in
    record {
      k = suc rest.k;
      below = omega (arith, rest.below);
      passes = rest.passes;
      is = ap (λ b. length (cond b (x ∷ front) front)) first ∙ ap suc rest.is;
    }

pub origin : {X : Type 0} (q : X → Bool) (xs : List X) (row : ℕ) (d : X) → row < length (filter q xs) → HasOrigin q xs row d
origin q [] row d within = absurd (omega (arith, within))
origin q (x ∷ xs) zero d within = elim (cases_Bool (q x)) [
  | inl first ↦ record { k = 0; below = omega arith; passes = first; is = refl }
  | inr other ↦
      let size : length (filter q (x ∷ xs)) ≡ length (filter q xs) =
      ap (λ b. length (cond b (x ∷ filter q xs) (filter q xs))) other in
      origin-other q x xs zero d other (origin q xs zero d (omega (arith, within, size)))
]
origin q (x ∷ xs) (suc row) d within = elim (cases_Bool (q x)) [
  | inl first ↦
      let size : length (filter q (x ∷ xs)) ≡ suc (length (filter q xs)) =
      ap (λ b. length (cond b (x ∷ filter q xs) (filter q xs))) first in
      origin-next q x xs row d first (origin q xs row d (omega (arith, within, size)))
  | inr other ↦
      let size : length (filter q (x ∷ xs)) ≡ length (filter q xs) =
      ap (λ b. length (cond b (x ∷ filter q xs) (filter q xs))) other in
      origin-other q x xs (suc row) d other (origin q xs (suc row) d (omega (arith, within, size)))
]
