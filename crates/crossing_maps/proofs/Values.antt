-- The value of a surface that a crossing adds, as a product over its components, and as a count of dot sets.
--
-- A surface's value is a product over all numbers below its size. It is one over the components' least places alone (value-listed). The
-- factor of a component with genus g is, where u discs after the crossing have no dot and d marks are elsewhere, what the load d + g gives,
-- if u is what that load leaves, and 0 otherwise (weight-split): so the product is that of the loads' factors, times how often the dot set
-- stands in the choices (value-chosen).
use Rattle.std.proofs.Common.{◌≡◌, ◌≢◌, ℕ, zero, suc, inl, inr, ◌+◌, ◌-◌, ◌*◌, ◌/◌, ◌%◌, ◌^◌, ◌<◌, ◌≤◌, ◌∙◌, List, [], ◌∷◌, length, map, refl, sym, ap, ap₂, arith, Bool, true, false, cond, ◌&&◌}
use Rattle.std.specs.Prelude.{nat_eq, slice_index}
use Rattle.std.specs.List.{count_by, enumerate_from, filter, list_all, list_any, range_with_len, sum_by, AllByRecursion, Contains}
use Rattle.std.proofs.lemmas.Bool.{cases_Bool, cases_eq, eqb-true}
use Rattle.std.proofs.lemmas.Bool.Decides.{nat_tests}
use Rattle.std.proofs.lemmas.List.{length-map}
use Rattle.std.proofs.lemmas.List.Sums.{sum_by-cons}
use Rattle.std.proofs.lemmas.Nat.{shr-shr}
use Rattle.kh_types.specs.Bits.{bit}
use Rattle.kh_types.specs.Classes.{classes_of, is_least}
use Rattle.surface_laws.specs.Points.{least_points}
use Rattle.surface_laws.specs.Surfaces.{Surface, genus_on, is_component, marks_on, plain_weight, value}
use Rattle.surface_laws.proofs.Components.{AllByRecursion-at, AllByRecursion-weaker, list_any-contained, list_any-some}
use Rattle.surface_laws.proofs.Factors.{value-plain}
use Rattle.surface_laws.proofs.Products.{product_below-alike}
use Rattle.surface_laws.proofs.TwoSides.{AllByRecursion-map}
use Rattle.dotted_maps.specs.Choices.{choices}
use Rattle.dotted_maps.specs.Parts.{product_over}
use Rattle.dotted_maps.proofs.ChoiceCounts.{choices-counted, zeros}
use Rattle.dotted_maps.proofs.ComponentParts.{AreDistinct, distinct-filter, one_at, product-distinct}
use Rattle.dotted_maps.proofs.LeastPoints.{AllByRecursion-filter, AreJoins, class-named, least-contained}
use Rattle.tangle_maps.specs.Seams.{factor_for}
use Rattle.crossing_maps.specs.Counts.{Places, blanks_on, genus_at, load_at, on, rest_at, surface_at}
use Rattle.crossing_maps.proofs.CountLemmas.{counted, counted-marks}
use Rattle.kh_types.proofs.Tests.{agree}
use Rattle.dotted_maps.proofs.Listed.{whole-number}

abbrev one_if : Bool → ℕ
one_if b = cond b 1 0

abbrev is_in : List ℕ → ℕ → Bool
is_in xs k = list_any (λ x. nat_eq x k) xs

-- numbers that follow one another are distinct
range-none : (x a n : ℕ) → x < a → count_by (nat_eq x) (range_with_len a n) ≡ 0
range-none x a zero before = refl
range-none x a (suc n) before =
    sum_by-cons (one_at x) a (range_with_len (a + 1) n)
    ∙ ap₂ (λ y z. y + z) (apart x a before) (range-none x (a + 1) n (omega (arith, before)))
  where
    apart : (x a : ℕ) → x < a → one_at x a ≡ 0
    apart x a before = grind (arith, nat_tests)

pub range-distinct : (a n : ℕ) → AreDistinct (range_with_len a n)
range-distinct a zero x = omega arith
range-distinct a (suc n) x = elim (cases_eq x a) [
  | inl same ↦
      omega (arith, sum_by-cons (one_at x) a (range_with_len (a + 1) n), at-most x a, range-none x (a + 1) n (omega (arith, same)))
  | inr other ↦
      omega (arith, sum_by-cons (one_at x) a (range_with_len (a + 1) n), apart x a other, range-distinct (a + 1) n x)
]
  where
    at-most : (x a : ℕ) → one_at x a ≤ 1
    at-most x a = grind (arith, nat_tests)

    apart : (x a : ℕ) → x ≢ a → one_at x a ≡ 0
    apart x a other = grind (arith, nat_tests)

-- components are classes, each with its least place

least-kept : (classes xs : List ℕ) → AllByRecursion (λ x. is_least classes x ≡ true) (filter (is_least classes) xs)
least-kept classes [] = tt
least-kept classes (x ∷ xs) =
    elim (cases_Bool (is_least classes x)) [
      | inl is ↦ rw is (is, least-kept classes xs)
      | inr not ↦ rw not (least-kept classes xs)
    ]

same-components : (surface : Surface) (k : ℕ) → AreJoins surface.size surface.places surface.joins
    → is_component surface k ≡ is_in (least_points surface.size surface.places surface.joins) k
same-components surface k joined =
    let classes = classes_of surface.size surface.joins in
    let names = least_points surface.size surface.places surface.joins in
    agree (is_component surface k) (is_in names k)
    (λ is.
    let found = list_any-some (λ x. nat_eq (slice_index classes x) k) surface.places is in
    list_any-contained (λ x. nat_eq x k) names (slice_index classes found.0)
    (class-named surface.size surface.places surface.joins found.0 joined found.1) found.2)
    (λ is.
    let found = list_any-some (λ x. nat_eq x k) names is in
    let least : is_least classes found.0 ≡ true =
    AllByRecursion-at (λ x. is_least classes x ≡ true) names found.0 (least-kept classes surface.places) found.1 in
    let there = AllByRecursion-at (λ x. Contains surface.places x) names found.0
    (least-contained surface.size surface.places surface.joins) found.1 in
    list_any-contained (λ x. nat_eq (slice_index classes x) k) surface.places found.0 there
    (ap (λ c. nat_eq c k) (eqb-true (slice_index classes found.0) found.0 least) ∙ found.2))

abbrev part_of : Surface → ℕ → ℕ
part_of surface k = plain_weight (genus_on surface k) (marks_on surface k)

pub value-listed : (surface : Surface) → AreJoins surface.size surface.places surface.joins → AreDistinct surface.places
    → value 0 0 surface ≡ product_over (part_of surface) (least_points surface.size surface.places surface.joins)
value-listed surface joined distinct =
    let classes = classes_of surface.size surface.joins in
    let names = least_points surface.size surface.places surface.joins in
    value-plain surface
    ∙ product_below-alike surface.size (λ k. cond (is_component surface k) (part_of surface k) 1)
    (λ k. cond (is_in names k) (part_of surface k) 1)
    (λ k below. ap (λ b. cond b (part_of surface k) 1) (same-components surface k joined))
    ∙ product-distinct surface.size (part_of surface) names
    (AllByRecursion-filter (λ x. x < surface.size) (is_least classes) surface.places joined.below)
    (distinct-filter (is_least classes) surface.places distinct)

-- each place is on one of the components
pub places-named : (size : ℕ) (places : List ℕ) (joins : List (ℕ × ℕ)) (xs : List ℕ) → AreJoins size places joins
    → AllByRecursion (λ x. Contains places x) xs
    → AllByRecursion (λ k. Contains (least_points size places joins) k) (map (slice_index (classes_of size joins)) xs)
places-named size places joins xs joined within =
    let class : ℕ → ℕ = slice_index (classes_of size joins) in
    let names = least_points size places joins in
    AllByRecursion-map (λ k. Contains names k) class xs
    (AllByRecursion-weaker (λ x. Contains places x) (λ x. Contains names (class x)) xs
    (λ x has. class-named size places joins x joined has) within)

-- the factor of a component

weight-split : (g d u : ℕ) → plain_weight g (u + d) ≡ factor_for (d + g) g * one_if (nat_eq u (1 - (d + g)))
weight-split g d u = elim (cases_eq (d + g) 0) [
  | inl none ↦ spheres g d u none
  | inr some ↦ elim (cases_eq (d + g) 1) [ inl one ↦ loaded g d u one | inr more ↦ heavy g d u some more ]
]
  where
    spheres : (g d u : ℕ) → d + g ≡ 0 → plain_weight g (u + d) ≡ factor_for (d + g) g * one_if (nat_eq u (1 - (d + g)))
    spheres g d u none = grind (arith, nat_tests)

    loaded : (g d u : ℕ) → d + g ≡ 1 → plain_weight g (u + d) ≡ factor_for (d + g) g * one_if (nat_eq u (1 - (d + g)))
    loaded g d u one = elim (cases_eq g 0) [ inl flat ↦ dotted g d u one flat | inr torus ↦ holed g d u one torus ]
      where
        dotted : (g d u : ℕ) → d + g ≡ 1 → g ≡ 0 → plain_weight g (u + d) ≡ factor_for (d + g) g * one_if (nat_eq u (1 - (d + g)))
        dotted g d u one flat = grind (arith, nat_tests)

        holed : (g d u : ℕ) → d + g ≡ 1 → g ≢ 0 → plain_weight g (u + d) ≡ factor_for (d + g) g * one_if (nat_eq u (1 - (d + g)))
        holed g d u one torus = grind (arith, nat_tests)

    heavy : (g d u : ℕ) → d + g ≢ 0 → d + g ≢ 1 → plain_weight g (u + d) ≡ factor_for (d + g) g * one_if (nat_eq u (1 - (d + g)))
    heavy g d u some more = grind (arith, nat_tests)

product-split : (w f : ℕ → ℕ) (test : ℕ → Bool) (xs : List ℕ) → ((k : ℕ) → w k ≡ f k * one_if (test k))
    → product_over w xs ≡ product_over f xs * one_if (list_all test xs)
product-split w f test [] split = refl
product-split w f test (x ∷ xs) split =
    ap₂ (λ a b. a * b) (split x) (product-split w f test xs split)
    ∙ both (f x) (product_over f xs) (test x) (list_all test xs)
  where
    both : (a b : ℕ) (s t : Bool) → a * one_if s * (b * one_if t) ≡ a * b * one_if (s && t)
    both a b true true = omega arith
    both a b true false = omega arith
    both a b false true = omega arith
    both a b false false = omega arith

-- discs without a dot, by their places
blanks-zeros : (component number j : ℕ) (ks : List ℕ)
    → sum_by (λ at. cond (nat_eq at.1 component) (1 - bit number at.0) 0) (enumerate_from j ks) ≡ zeros ks component (number / 2 ^ j)
blanks-zeros component number j [] = refl
blanks-zeros component number j (k ∷ ks) =
    sum_by-cons (λ at. cond (nat_eq at.1 component) (1 - bit number at.0) 0) (j, k) (enumerate_from (j + 1) ks)
    ∙ ap₂ (λ b z. cond (nat_eq k component) (1 - b) 0 + z) (first-bit (number / 2 ^ j))
    (blanks-zeros component number (j + 1) ks ∙ ap (λ n. zeros ks component n) (sym (shr-shr number j 1)))
  where
    first-bit : (n : ℕ) → n % 2 ≡ bit n 0
    first-bit n = omega arith

-- the dot sets that count, and with which factor, from components of places
abbrev pub sets_at : List ℕ → Places → ℕ → ℕ → ℕ → List ℕ
sets_at names at dots label other = choices names at.rims (λ k. 1 - load_at at dots label other k)

abbrev pub factor_at : Places → ℕ → ℕ → ℕ → ℕ → ℕ
factor_at at dots label other k = factor_for (load_at at dots label other k) (genus_at at k)

pub value-chosen : (size : ℕ) (places : List ℕ) (joins : List (ℕ × ℕ)) (at : Places) (kept dots label other : ℕ)
    → AreJoins size places joins → AreDistinct places → AllByRecursion (λ x. Contains places x) at.rims → kept < 2 ^ length at.rims
    → value 0 0 (surface_at size places joins at kept dots label other)
    ≡ product_over (factor_at (on (slice_index (classes_of size joins)) at) dots label other) (least_points size places joins)
    * count_by (nat_eq kept) (sets_at (least_points size places joins) (on (slice_index (classes_of size joins)) at) dots label other)
value-chosen size places joins at kept dots label other joined distinct within below =
    let class : ℕ → ℕ = slice_index (classes_of size joins) in
    let names = least_points size places joins in
    let here = on class at in
    let ks = map class at.rims in
    let surface = surface_at size places joins at kept dots label other in
    let left : ℕ → ℕ = λ k. 1 - load_at here dots label other k in
    let f : ℕ → ℕ = factor_at here dots label other in
    let test : ℕ → Bool = λ k. nat_eq (zeros ks k kept) (left k) in
    let named = places-named size places joins at.rims joined within in
    value-listed surface joined distinct
    ∙ product-split (part_of surface) f test names
    (λ k.
    ap₂ (λ g c. plain_weight g c) (counted size places joins at.rims at.discs at.closed at.others at.lowers at.raises kept dots label other k)
    (counted-marks size places joins at.rims at.discs at.closed at.others at.lowers at.raises kept dots label other k)
    ∙ weight-split (genus_at here k) (rest_at here dots label other k) (blanks_on k kept ks)
    ∙ ap (λ u. f k * one_if (nat_eq u (left k))) (blanks-zeros k kept 0 ks ∙ ap (zeros ks k) (whole-number kept)))
    ∙ ap (λ z. product_over f names * z)
    (sym (choices-counted names ks left kept named (omega (arith, below, ap (λ n. 2 ^ n) (length-map at.rims class)))))
