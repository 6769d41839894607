-- The terms that the seam of an added surface makes: those of the dot sets that count, each with the product of the components' factors.
use Rattle.std.proofs.Common.{◌≡◌, ℕ, suc, ◌+◌, ◌-◌, ◌*◌, ◌<◌, ◌∙◌, List, [], ◌∷◌, ◌++◌, length, map, refl, sym, ap, ap₂, arith, Bool, true, false, cond}
use Rattle.std.specs.Prelude.{nat_eq}
use Rattle.std.specs.List.{count_by, enumerate_from, sum_by, AllByRecursion, Contains}
use Rattle.std.proofs.lemmas.Bool.Decides.{nat_tests}
use Rattle.std.proofs.lemmas.List.Sums.{sum_by-cons}
use Rattle.kh_types.specs.Bits.{bit}
use Rattle.kh_types.proofs.ListSums.{sum_by-alike, sum_by-map, sum_by-times}
use Rattle.dotted_maps.specs.declared.term.Term.{Term}
use Rattle.dotted_maps.specs.Choices.{choices}
use Rattle.dotted_maps.specs.Maps.{coefficient_in}
use Rattle.dotted_maps.specs.Parts.{product_over}
use Rattle.tangle_maps.specs.declared.seam.Seam.{Seam}
use Rattle.tangle_maps.specs.Seams.{dots_on, factor_by, factor_for, left_by, load_by, seam_terms}
use Rattle.tangle_maps.specs.Sums.{dotted_term, dotted_times}
use Rattle.tangle_maps.proofs.ChoiceLemmas.{choices-on}
use Rattle.tangle_maps.proofs.ComposeLemmas.{product-on}
use Rattle.crossing_maps.specs.AddedSeams.{AreMarks, IsAddedSeam}
use Rattle.crossing_maps.specs.Counts.{Places, blanks_on, load_at}
use Rattle.crossing_maps.proofs.Values.{factor_at, sets_at}

abbrev one_if : Bool → ℕ
one_if b = cond b 1 0

-- sums over places

enumerated-alike : (f g : ℕ × ℕ → ℕ) (a b : ℕ) (xs : List ℕ) → ((i x : ℕ) → i < length xs → f (a + i, x) ≡ g (b + i, x))
    → sum_by f (enumerate_from a xs) ≡ sum_by g (enumerate_from b xs)
enumerated-alike f g a b [] alike = refl
enumerated-alike f g a b (x ∷ xs) alike =
    let next : (n i : ℕ) → n + 1 + i ≡ n + suc i = λ n i. omega arith in
    let here : (n : ℕ) → n ≡ n + 0 = λ n. omega arith in
    sum_by-cons f (a, x) (enumerate_from (a + 1) xs)
    ∙ ap₂ (λ n m. n + m) (ap (λ i. f (i, x)) (here a) ∙ alike 0 x (omega arith) ∙ sym (ap (λ i. g (i, x)) (here b)))
    (enumerated-alike f g (a + 1) (b + 1) xs
    (λ i y within.
    ap (λ j. f (j, y)) (next a i) ∙ alike (suc i) y (omega (arith, within)) ∙ sym (ap (λ j. g (j, y)) (next b i))))
    ∙ sym (sum_by-cons g (b, x) (enumerate_from (b + 1) xs))

sum-enumerated : (f : ℕ × ℕ → ℕ) (a : ℕ) (xs ys : List ℕ)
    → sum_by f (enumerate_from a (xs ++ ys)) ≡ sum_by f (enumerate_from a xs) + sum_by f (enumerate_from (a + length xs) ys)
sum-enumerated f a [] ys =
    let here : a ≡ a + 0 = omega arith in
    omega (arith, ap (λ j. sum_by f (enumerate_from j ys)) here)
sum-enumerated f a (x ∷ xs) ys =
    let next : a + 1 + length xs ≡ a + suc (length xs) = omega arith in
    omega (
      arith,
      sum_by-cons f (a, x) (enumerate_from (a + 1) (xs ++ ys)),
      sum-enumerated f (a + 1) xs ys,
      sum_by-cons f (a, x) (enumerate_from (a + 1) xs),
      ap (λ j. sum_by f (enumerate_from j ys)) next,
    )

-- marks are the dots of labels

marks-counted : (k label other marks : ℕ) (closed others : List ℕ) → AreMarks (length closed) (length others) label other marks
    → dots_on k marks (closed ++ others) ≡ dots_on k label closed + blanks_on k other others
marks-counted k label other marks closed others are =
    let dots : ℕ → ℕ × ℕ → ℕ = λ number at. cond (nat_eq at.1 k) (bit number at.0) 0 in
    let blanks : ℕ × ℕ → ℕ = λ at. cond (nat_eq at.1 k) (1 - bit other at.0) 0 in
    let from : (i : ℕ) → 0 + i ≡ i = λ i. omega arith in
    sum-enumerated (dots marks) 0 closed others
    ∙ ap₂ (λ n m. n + m)
    (enumerated-alike (dots marks) (dots label) 0 0 closed
    (λ i x within. ap (λ b. cond (nat_eq x k) b 0) (are.before (0 + i) (omega (arith, within)))))
    (enumerated-alike (dots marks) blanks (0 + length closed) 0 others
    (λ i x within.
    ap (λ b. cond (nat_eq x k) b 0)
    (ap (λ n. bit marks (n + i)) (from (length closed)) ∙ are.behind i within ∙ sym (ap (λ n. 1 - bit other n) (from i)))))

-- a seam's loads

load-same : (names : List ℕ) (at : Places) (dots label other marks k : ℕ) (seam : Seam) → IsAddedSeam names at seam
    → AreMarks (length at.closed) (length at.others) label other marks → Contains names k
    → load_by seam dots marks k ≡ load_at at dots label other k
load-same names at dots label other marks k seam is are has =
    ap₂ (λ x y. x + y)
    (ap₂ (λ x y. x + y) (ap (λ xs. dots_on k dots xs) is.first)
    (ap (λ xs. dots_on k marks xs) is.second ∙ marks-counted k label other marks at.closed at.others are)) (is.genera k has)

pub terms-same : (names : List ℕ) (at : Places) (label other marks : ℕ) (seam : Seam) (term : Term) → IsAddedSeam names at seam
    → AreMarks (length at.closed) (length at.others) label other marks → AllByRecursion (λ k. Contains names k) at.rims
    → seam_terms seam term (dotted_term marks 1)
    ≡ map (dotted_times (term.coefficient * 1 * product_over (factor_at at term.dots label other) names)) (sets_at names at term.dots label other)
terms-same names at label other marks seam term is are named =
    let load : (k : ℕ) → Contains names k → load_by seam term.dots marks k ≡ load_at at term.dots label other k =
    λ k has. load-same names at term.dots label other marks k seam is are has in
    let sets : choices seam.components.items seam.whole.items (left_by seam term.dots marks) ≡ sets_at names at term.dots label other =
    ap₂ (λ xs ys. choices xs ys (left_by seam term.dots marks)) is.parts is.whole
    ∙ choices-on names at.rims (left_by seam term.dots marks) (λ k. 1 - load_at at term.dots label other k) named
    (λ k has. ap (λ x. 1 - x) (load k has)) in
    let factors : product_over (factor_by seam term.dots marks) seam.components.items
    ≡ product_over (factor_at at term.dots label other) names =
    ap (product_over (factor_by seam term.dots marks)) is.parts
    ∙ product-on (factor_by seam term.dots marks) (factor_at at term.dots label other) names
    (λ k has. ap₂ factor_for (load k has) (is.genera k has)) in
    ap₂ (λ c xs. map (dotted_times (term.coefficient * 1 * c)) xs) factors sets

-- the coefficients of chosen sets
pub coefficient-chosen : (c kept : ℕ) (sets : List ℕ) → coefficient_in (map (dotted_times c) sets) kept ≡ c * count_by (nat_eq kept) sets
coefficient-chosen c kept sets =
    sum_by-map (λ term. cond (nat_eq term.dots kept) term.coefficient 0) (dotted_times c) sets
    ∙ sum_by-alike (λ x. cond (nat_eq x kept) c 0) (λ x. c * one_if (nat_eq kept x)) (λ x. here x kept c) sets
    ∙ sum_by-times (λ x. one_if (nat_eq kept x)) c sets
  where
    turned : (x y : ℕ) → nat_eq x y ≡ nat_eq y x
    turned x y = grind (arith, nat_tests)

    taken : (b : Bool) (c : ℕ) → cond b c 0 ≡ c * one_if b
    taken true c = omega arith
    taken false c = omega arith

    here : (x kept c : ℕ) → cond (nat_eq x kept) c 0 ≡ c * one_if (nat_eq kept x)
    here x kept c = ap (λ b. cond b c 0) (turned x kept) ∙ taken (nat_eq kept x) c
