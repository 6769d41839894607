-- Names have one order: components in order are one list.
--
-- Components that go round, have no name twice and stand in the order of their least names can be listed in one way only: the first of both
-- lists begins with the least name of all, and goes on from name to next name until it is back; so they agree, and so do the rest, over the
-- other names.
use Rattle.std.proofs.lemmas.Bool.Decides.{nat_tests}
use Rattle.std.proofs.Common.{◌≡◌, ℕ, zero, suc, ◌⊎◌, inl, inr, ◌+◌, ◌-◌, ◌<◌, ◌≤◌, ◌∙◌, List, [], ◌∷◌, ◌++◌, length, refl, sym, ap, ap₂, arith, cond}
use Rattle.std.specs.Prelude.{nat_eq, slice_index, slice_index_or}
use Rattle.std.specs.List.{count_by, flat_map, position_or_len}
use Rattle.std.proofs.lemmas.Bool.{cases_eq, eq-eqb, ne_eqb}
use Rattle.std.proofs.lemmas.Grind.{same_number_lists}
use Rattle.std.proofs.lemmas.List.Sums.{sum_by-append, sum_by-cons}
use Rattle.code_passes.specs.Parts.{Parts, ArePaired, passes_through}
use Rattle.orient_arcs.specs.Renumbered.{AreInOrder, AreOrdered, all_of, follows, label_entered, name_in_component, order_of, turned_names}
use Rattle.orient_arcs.proofs.Members.{IsIn, AreDistinct, IsIn-left, IsIn-parts, IsIn-get, get-IsIn, position-get}
use Rattle.orient_arcs.proofs.Ordered.{AreOrdered-components}

-- how often a number stands

count-more : (y z : ℕ) (zs : List ℕ) → count_by (nat_eq y) (z ∷ zs) ≡ cond (nat_eq y z) 1 0 + count_by (nat_eq y) zs
count-more y z zs = sum_by-cons (λ x. cond (nat_eq y x) 1 0) z zs

pub count-append : (y : ℕ) (xs zs : List ℕ) → count_by (nat_eq y) (xs ++ zs) ≡ count_by (nat_eq y) xs + count_by (nat_eq y) zs
count-append y xs zs = sum_by-append (λ x. cond (nat_eq y x) 1 0) xs zs

in-count : (y : ℕ) (zs : List ℕ) → IsIn y zs → 1 ≤ count_by (nat_eq y) zs
in-count y [] is = absurd is
in-count y (z ∷ zs) (inl same) = omega (arith, count-more y z zs, ap {B = ℕ} (λ b. cond b 1 0) (eq-eqb y z same))
in-count y (z ∷ zs) (inr later) = omega (arith, count-more y z zs, in-count y zs later)

count-in : (y : ℕ) (zs : List ℕ) → 1 ≤ count_by (nat_eq y) zs → IsIn y zs
count-in y [] some = absurd (omega (arith, some))
count-in y (z ∷ zs) some = elim (cases_eq y z) [
  | inl same ↦ inl same
  | inr other ↦ inr (count-in y zs (omega (arith, some, count-more y z zs, ap {B = ℕ} (λ b. cond b 1 0) (ne_eqb y z other))))
]

-- what stands once at most is distinct
count-distinct : (zs : List ℕ) → ((y : ℕ) → count_by (nat_eq y) zs ≤ 1) → AreDistinct zs
count-distinct [] few = tt
count-distinct (z ∷ zs) few = (
  λ is. absurd
      (omega (arith, few z, count-more z z zs, ap {B = ℕ} (λ b. cond b 1 0) (eq-eqb z z refl), in-count z zs is)),
  count-distinct zs (λ y. omega (arith, few y, count-more y z zs)),
)

module _ (next : ℕ → ℕ) where
  -- one component, round which each name is followed by the next
  record GoRound (names : List ℕ) : Type 0 where
    some : 1 ≤ length names
    onward : (place : ℕ) → place + 1 < length names → next (slice_index names place) ≡ slice_index names (place + 1)
    round : (place : ℕ) → place + 1 ≡ length names → next (slice_index names place) ≡ slice_index names 0

  names-agree : (a b : List ℕ) → GoRound a → GoRound b → slice_index a 0 ≡ slice_index b 0 → (k : ℕ) → k < length a → k < length b
      → slice_index a k ≡ slice_index b k
  names-agree a b round other first zero below under = first
  names-agree a b round other first (suc k) below under =
      let more : k + 1 ≡ suc k = omega arith in
      ap (λ n. slice_index a n) (sym more)
      ∙ sym (round.onward k (omega (arith, below)))
      ∙ ap next (names-agree a b round other first k (omega (arith, below)) (omega (arith, under)))
      ∙ other.onward k (omega (arith, under))
      ∙ ap (λ n. slice_index b n) more

  -- a longer one would come back to its first name before its end
  no-longer : (a b : List ℕ) → GoRound a → GoRound b → slice_index a 0 ≡ slice_index b 0 → AreDistinct b → length b ≤ length a
  no-longer a b round other first distinct = elim (two_ways (length a) (length b)) [
    | inl fits ↦ fits
    | inr longer ↦
        let end : (length a - 1) + 1 ≡ length a = omega (arith, round.some) in
        let last : length a - 1 < length a = omega (arith, round.some) in
        let back =
        ap (λ n. slice_index b n) (sym end)
        ∙ sym (other.onward (length a - 1) (omega (arith, end, longer)))
        ∙ ap next (sym (names-agree a b round other first (length a - 1) last (omega (arith, last, longer))))
        ∙ round.round (length a - 1) end
        ∙ first in
        let at = position-get b (length a) distinct longer in
        let start = position-get b 0 distinct (omega (arith, other.some)) in
        absurd
        (omega (arith, round.some, sym at ∙ ap (λ x. position_or_len (nat_eq x) b) back ∙ start))
  ]
    where
      two_ways : (m n : ℕ) → (n ≤ m) ⊎ (m < n)
      two_ways m n = grind arith

  one-round : (a b : List ℕ) → GoRound a → GoRound b → slice_index a 0 ≡ slice_index b 0 → AreDistinct a → AreDistinct b → a ≡ b
  one-round a b round other first a_distinct b_distinct = grind (arith, nat_tests, round, no-longer, same_number_lists, names-agree)

  -- components that go round, in the order of their first names, which are their least
  record AreSorted (components : List (List ℕ)) : Type 0 where
    some : (at : ℕ) → at < length components → 1 ≤ length (slice_index_or components at [])
    onward : (at place : ℕ) → at < length components → place + 1 < length (slice_index_or components at [])
        → next (name_in_component components at place) ≡ name_in_component components at (place + 1)
    round : (at place : ℕ) → at < length components → place + 1 ≡ length (slice_index_or components at [])
        → next (name_in_component components at place) ≡ name_in_component components at 0
    least : (at place : ℕ) → at < length components → place < length (slice_index_or components at [])
        → name_in_component components at 0 ≤ name_in_component components at place
    ascending : (at later : ℕ) → at < later → later < length components → name_in_component components at 0 < name_in_component components later 0

  sorted-rest : (x : List ℕ) (xs : List (List ℕ)) → AreSorted (x ∷ xs) → AreSorted xs
  sorted-rest x xs sorted = record {
    some = λ at below. sorted.some (suc at) (omega (arith, below));
    onward = λ at place below inside. sorted.onward (suc at) place (omega (arith, below)) inside;
    round = λ at place below ends. sorted.round (suc at) place (omega (arith, below)) ends;
    least = λ at place below inside. sorted.least (suc at) place (omega (arith, below)) inside;
    ascending = λ at later less below. sorted.ascending (suc at) (suc later) (omega (arith, less)) (omega (arith, below));
  }

  sorted-first : (x : List ℕ) (xs : List (List ℕ)) → AreSorted (x ∷ xs) → GoRound x
  sorted-first x xs sorted =
      let here : 0 < length (x ∷ xs) = omega arith in
      record {
        some = sorted.some 0 here;
        onward = λ place inside. sorted.onward 0 place here inside;
        round = λ place ends. sorted.round 0 place here ends;
      }

  above-all : (bound : ℕ) (xs : List (List ℕ)) → AreSorted xs → ((at : ℕ) → at < length xs → bound ≤ name_in_component xs at 0)
      → (y : ℕ) → IsIn y (all_of xs) → bound ≤ y
  above-all bound [] sorted above y is = absurd is
  above-all bound (x ∷ xs) sorted above y is = elim (IsIn-parts y x (all_of xs) is) [
    | inl here ↦
        let found = get-IsIn y x here in
        let first : 0 < length (x ∷ xs) = omega arith in
        omega (arith, above 0 first, sorted.least 0 found.0 first found.1, found.2)
    | inr there ↦
        above-all bound xs (sorted-rest x xs sorted) (λ at below. above (suc at) (omega (arith, below))) y there
  ]

  first-least : (x : List ℕ) (xs : List (List ℕ)) → AreSorted (x ∷ xs) → (y : ℕ) → IsIn y (all_of (x ∷ xs)) → slice_index x 0 ≤ y
  first-least x xs sorted = above-all (slice_index x 0) (x ∷ xs) sorted each
    where
      each : (at : ℕ) → at < length (x ∷ xs) → slice_index x 0 ≤ name_in_component (x ∷ xs) at 0
      each zero below = omega arith
      each (suc at) below = let later = sorted.ascending 0 (suc at) (omega arith) below in omega (arith, later)

  first-in : (x : List ℕ) (xs : List (List ℕ)) → AreSorted (x ∷ xs) → IsIn (slice_index x 0) (all_of (x ∷ xs))
  first-in x xs sorted = IsIn-left (slice_index x 0) x (all_of xs) (IsIn-get x 0 (sorted-first x xs sorted).some)

  -- such components with the same names, none twice, are the same
  sorted-same : (xs ys : List (List ℕ)) → AreSorted xs → AreSorted ys → ((y : ℕ) → count_by (nat_eq y) (all_of xs) ≤ 1)
      → ((y : ℕ) → count_by (nat_eq y) (all_of xs) ≡ count_by (nat_eq y) (all_of ys)) → xs ≡ ys
  sorted-same [] [] sorted other few same = refl
  sorted-same [] (y ∷ ys) sorted other few same =
      absurd (omega (arith, same (slice_index y 0), in-count (slice_index y 0) (all_of (y ∷ ys)) (first-in y ys other)))
  sorted-same (x ∷ xs) [] sorted other few same =
      absurd (omega (arith, same (slice_index x 0), in-count (slice_index x 0) (all_of (x ∷ xs)) (first-in x xs sorted)))
  sorted-same (x ∷ xs) (y ∷ ys) sorted other few same =
      let x_first = slice_index x 0 in
      let y_first = slice_index y 0 in
      let x_counted = in-count x_first (all_of (x ∷ xs)) (first-in x xs sorted) in
      let y_counted = in-count y_first (all_of (y ∷ ys)) (first-in y ys other) in
      let y_below = first-least y ys other x_first (count-in x_first (all_of (y ∷ ys)) (omega (arith, x_counted, same x_first))) in
      let x_below = first-least x xs sorted y_first (count-in y_first (all_of (x ∷ xs)) (omega (arith, y_counted, same y_first))) in
      let x_distinct = count-distinct x (λ z. omega (arith, few z, count-append z x (all_of xs))) in
      let y_distinct = count-distinct y (λ z. omega (arith, few z, same z, count-append z y (all_of ys))) in
      let firsts =
      one-round x y (sorted-first x xs sorted) (sorted-first y ys other) (omega (arith, x_below, y_below)) x_distinct y_distinct in
      let rest =
      sorted-same xs ys (sorted-rest x xs sorted) (sorted-rest y ys other)
      (λ z. omega (arith, few z, count-append z x (all_of xs)))
      (λ z. omega (arith, same z, count-append z x (all_of xs), count-append z y (all_of ys), ap (λ names. count_by (nat_eq z) names) firsts)) in
      ap₂ (λ names more. names ∷ more) firsts rest

ordered-sorted : (parts : Parts) (components : List (List ℕ)) → AreOrdered parts components
    → AreSorted (follows (passes_through parts)) components
ordered-sorted parts components ordered = grind (arith, nat_tests)

pub one-order : (parts : Parts) (order other : List ℕ) → ArePaired parts → AreInOrder parts order → AreInOrder parts other → order ≡ other
one-order parts order other paired is also =
    is.begun
    ∙ ap (λ components. flat_map (turned_names (label_entered (passes_through parts))) components)
    (sorted-same (follows (passes_through parts)) is.components also.components (ordered-sorted parts is.components is.ordered)
    (ordered-sorted parts also.components also.ordered) (λ y. omega (arith, is.ordered.once y, paired.heads y))
    (λ y. is.ordered.once y ∙ sym (also.ordered.once y)))
    ∙ sym also.begun

pub AreInOrder-order : (parts : Parts) → ArePaired parts → AreInOrder parts (order_of (passes_through parts))
AreInOrder-order parts paired = record { components = _; ordered = AreOrdered-components parts paired; begun = refl }
