-- Where h and k are 0 the listed composition has the composition's coefficients, and so it is a composition of the two maps. The part of a component
-- is its factor where as many of its discs have no dot as its load allows (its dots and genus together); else it is 0, by cases:
-- the load is 0, 1 or more. So the product over components is the product of the factors, times a test of all components; this
-- test holds of the dot sets that are chosen, and of each of them once. Hence the coefficient of a dot set in the list is, pair
-- of terms by pair of terms, that of the composition, and all dot sets of the list are sets of discs.
use Rattle.std.proofs.Common.{◌≡◌, ◌≢◌, ℕ, inl, inr, ◌+◌, ◌-◌, ◌*◌, ◌/◌, ◌%◌, ◌^◌, ◌<◌, ◌∙◌, List, [], ◌∷◌, ◌++◌, map, length, refl, sym, ap, ap₂, arith, Bool, true, false, cond, ◌&&◌, eq-eqb}
use Rattle.std.specs.Prelude.{nat_eq}
use Rattle.std.specs.List.{list_all, flat_map, count_by, sum_by, AllByRecursion, Contains}
use Rattle.std.proofs.lemmas.Bool.{cases_eq}
use Rattle.std.proofs.lemmas.Bool.Decides.{nat_tests}
use Rattle.std.proofs.lemmas.List.{length-map}
use Rattle.kh_types.proofs.ListSums.{sum_by-map, sum_by-alike, sum_by-times, sum_by-flat_map}
use Rattle.kh_types.proofs.Lists.{AllByRecursion-append}
use Rattle.surface_laws.proofs.TwoSides.{AllByRecursion-map}
use Rattle.surface_laws.proofs.Components.{AllByRecursion-weaker, AllByRecursion-at}
use Rattle.surface_laws.specs.Points.{Points, ArePlaced, AreAmong, IsOpenPairing, discs}
use Rattle.dotted_maps.specs.Composition.{composed}
use Rattle.dotted_maps.specs.Parts.{components, component_in, dotted_on, undotted_on, genus_in, part_coefficient, product_over, part_at}
use Rattle.dotted_maps.specs.Maps.{coefficient_in, composed_in, IsComposition}
use Rattle.dotted_maps.specs.declared.term.Term.{Term}
use Rattle.dotted_maps.specs.Choices.{undotted_at, factor_at, choices, composed_terms, listed}
use Rattle.dotted_maps.proofs.LeastPoints.{AreJoins, AreAmong-append, class-named, least-contained}
use Rattle.dotted_maps.proofs.ComponentParts.{composed-parts, part-plain}
use Rattle.dotted_maps.proofs.ChoiceCounts.{zeros, choices-counted, choices-below, undotted-zeros}

abbrev one_if : Bool → ℕ
one_if b = cond b 1 0

-- the part of a component: its factor, where as many discs as it may leave have no dot

abbrev factor_by : ℕ → ℕ → ℕ
factor_by load genus = cond (nat_eq load 1) (1 + genus) (cond (nat_eq load 0) 1 0)

part-none : (g d u : ℕ) → d + g ≡ 0 → part_coefficient g d u ≡ one_if (nat_eq u 1)
part-none g d u is = grind (arith, nat_tests)

part-one : (g d u : ℕ) → d + g ≡ 1 → part_coefficient g d u ≡ (1 + g) * one_if (nat_eq u 0)
part-one g d u is = elim (cases_eq u 0) [
  | inl none ↦ with-none g d u is none
  | inr some ↦ with-some g d u is some ∙ times-zero (1 + g) (one_if (nat_eq u 0)) (test-false u some)
]
  where
    with-none : (g d u : ℕ) → d + g ≡ 1 → u ≡ 0 → part_coefficient g d u ≡ (1 + g) * one_if (nat_eq u 0)
    with-none g d u is none =
        taken g d u is none ∙ one_time (1 + g) ∙ ap (λ b. (1 + g) * one_if b) (sym (eq-eqb u 0 none))
      where
        taken : (g d u : ℕ) → d + g ≡ 1 → u ≡ 0 → part_coefficient g d u ≡ 1 + g
        taken g d u is none = grind (arith, nat_tests)

        one_time : (x : ℕ) → x ≡ x * 1
        one_time x = omega arith

    with-some : (g d u : ℕ) → d + g ≡ 1 → u ≢ 0 → part_coefficient g d u ≡ 0
    with-some g d u is some = grind (arith, nat_tests)

    times-zero : (x y : ℕ) → y ≡ 0 → 0 ≡ x * y
    times-zero x y none = sym (ap (λ z. x * z) none ∙ zero_right x)
      where
        zero_right : (x : ℕ) → x * 0 ≡ 0
        zero_right x = omega arith

    test-false : (u : ℕ) → u ≢ 0 → one_if (nat_eq u 0) ≡ 0
    test-false u some = grind (arith, nat_tests)

part-more : (g d u : ℕ) → d + g ≢ 0 → d + g ≢ 1 → part_coefficient g d u ≡ 0
part-more g d u not_none not_one = grind (arith, nat_tests)

factor-none : (load g : ℕ) → load ≡ 0 → factor_by load g ≡ 1
factor-none load g is = grind (arith, nat_tests)

factor-one : (load g : ℕ) → load ≡ 1 → factor_by load g ≡ 1 + g
factor-one load g is = grind (arith, nat_tests)

factor-more : (load g : ℕ) → load ≢ 0 → load ≢ 1 → factor_by load g ≡ 0
factor-more load g not_none not_one = grind (arith, nat_tests)

part-split : (g d u : ℕ) → part_coefficient g d u ≡ factor_by (d + g) g * one_if (nat_eq u (1 - (d + g)))
part-split g d u = elim (cases_eq (d + g) 0) [
  | inl none ↦
      let left : 1 - (d + g) ≡ 1 = omega (arith, none) in
      part-none g d u none ∙ one_time (one_if (nat_eq u 1))
      ∙ ap₂ (λ x y. x * one_if (nat_eq u y)) (sym (factor-none (d + g) g none)) (sym left)
  | inr some ↦ elim (cases_eq (d + g) 1) [
    | inl one ↦
        let left : 1 - (d + g) ≡ 0 = omega (arith, one) in
        part-one g d u one ∙ ap₂ (λ x y. x * one_if (nat_eq u y)) (sym (factor-one (d + g) g one)) (sym left)
    | inr more ↦
        part-more g d u some more
        ∙ sym (ap (λ x. x * one_if (nat_eq u (1 - (d + g)))) (factor-more (d + g) g some more)
        ∙ zero_times (one_if (nat_eq u (1 - (d + g)))))
  ]
]
  where
    one_time : (x : ℕ) → x ≡ 1 * x
    one_time x = omega arith

    zero_times : (x : ℕ) → 0 * x ≡ 0
    zero_times x = omega arith

-- products over a list

product-times : (f g : ℕ → ℕ) (xs : List ℕ) → product_over (λ x. f x * g x) xs ≡ product_over f xs * product_over g xs
product-times f g [] = refl
product-times f g (x ∷ xs) =
    ap (λ z. f x * g x * z) (product-times f g xs) ∙ turned (f x) (g x) (product_over f xs) (product_over g xs)
  where
    turned : (a b c d : ℕ) → a * b * (c * d) ≡ a * c * (b * d)
    turned a b c d = omega arith

product-tests : (p : ℕ → Bool) (xs : List ℕ) → product_over (λ x. one_if (p x)) xs ≡ one_if (list_all p xs)
product-tests p [] = refl
product-tests p (x ∷ xs) = ap (λ z. one_if (p x) * z) (product-tests p xs) ∙ both (p x) (list_all p xs)
  where
    both : (a b : Bool) → one_if a * one_if b ≡ one_if (a && b)
    both true true = refl
    both true false = refl
    both false true = refl
    both false false = refl

pub product-alike : (f g : ℕ → ℕ) (xs : List ℕ) → ((x : ℕ) → f x ≡ g x) → product_over f xs ≡ product_over g xs
product-alike f g [] alike = refl
product-alike f g (x ∷ xs) alike = ap₂ (λ a b. a * b) (alike x) (product-alike f g xs alike)

-- what is asked of the pairings
pub record AreListed (points : Points) (m n o : List (ℕ × ℕ)) : Type 0 where
  pub placed : ArePlaced points
  pub pairing : IsOpenPairing points m
  pub first : AreAmong points.opened m
  pub second : AreAmong points.opened n
  pub third : AreAmong points.opened o

abbrev pub places : Points → List (ℕ × ℕ) → List (ℕ × ℕ) → List (ℕ × ℕ) → List ℕ
places points m n o = map (component_in points m n o) (discs points m o)

abbrev sets : Points → List (ℕ × ℕ) → List (ℕ × ℕ) → List (ℕ × ℕ) → ℕ → ℕ → List ℕ
sets points m n o dots others = choices (components points m n o) (places points m n o) (undotted_at points m n o dots others)

pub opened-joins : (points : Points) (m n o : List (ℕ × ℕ)) → AreListed points m n o
    → AreJoins points.size points.opened (m ++ (o ++ n))
opened-joins points m n o is = record {
  below = AllByRecursion-weaker (λ x. Contains points.alive x) (λ x. x < points.size) points.opened
      (λ x has. AllByRecursion-at (λ y. y < points.size) points.alive x is.placed.alive has) is.placed.opened;
  among = AreAmong-append points.opened m (o ++ n) is.first (AreAmong-append points.opened o n is.third is.second);
}

pub places-named : (points : Points) (m n o : List (ℕ × ℕ)) → AreListed points m n o
    → AllByRecursion (λ k. Contains (components points m n o) k) (places points m n o)
places-named points m n o is =
    AllByRecursion-map (λ k. Contains (components points m n o) k) (component_in points m n o) (discs points m o)
    (AllByRecursion-weaker (λ x. Contains points.opened x)
    (λ x. Contains (components points m n o) (component_in points m n o x)) (discs points m o)
    (λ x has. class-named points.size points.opened (m ++ (o ++ n)) x (opened-joins points m n o is) has)
    (least-contained points.size points.opened (m ++ o)))

pub whole-number : (n : ℕ) → n / 2 ^ 0 ≡ n
whole-number n = omega arith

composed-chosen : (points : Points) (m n o : List (ℕ × ℕ)) (dots others kept : ℕ) → AreListed points m n o
    → kept < 2 ^ length (discs points m o)
    → composed 0 0 points m n o dots others kept
    ≡ product_over (factor_at points m n o dots others) (components points m n o)
    * count_by (nat_eq kept) (sets points m n o dots others)
composed-chosen points m n o dots others kept is below =
    let names = components points m n o in
    let ks = places points m n o in
    let left = undotted_at points m n o dots others in
    let f = factor_at points m n o dots others in
    let within : kept < 2 ^ length ks =
    omega (arith, below, ap (λ k. 2 ^ k) (length-map (discs points m o) (component_in points m n o))) in
    composed-parts 0 0 points m n o dots others kept is.placed is.pairing is.first is.second is.third
    ∙ product-alike (part_at 0 0 points m n o dots others kept) (λ k. f k * one_if (nat_eq (zeros ks k kept) (left k))) names
    (λ k.
    part-plain (genus_in points m n o k)
    (dotted_on points m n o k dots (discs points m n) + dotted_on points m n o k others (discs points n o))
    (undotted_on points m n o k kept (discs points m o))
    ∙ part-split (genus_in points m n o k)
    (dotted_on points m n o k dots (discs points m n) + dotted_on points m n o k others (discs points n o))
    (undotted_on points m n o k kept (discs points m o))
    ∙ ap (λ u. f k * one_if (nat_eq u (left k)))
    (undotted-zeros (component_in points m n o) (discs points m o) k kept 0 ∙ ap (zeros ks k) (whole-number kept)))
    ∙ product-times f (λ k. one_if (nat_eq (zeros ks k kept) (left k))) names
    ∙ ap (λ z. product_over f names * z)
    (product-tests (λ k. nat_eq (zeros ks k kept) (left k)) names
    ∙ sym (choices-counted names ks left kept (places-named points m n o is) within))

-- coefficients of the list

coefficient-chosen : (c kept : ℕ) (xs : List ℕ)
    → coefficient_in (map (λ x. record { dots = x; coefficient = c }) xs) kept ≡ c * count_by (nat_eq kept) xs
coefficient-chosen c kept xs =
    sum_by-map (λ term. cond (nat_eq term.dots kept) term.coefficient 0) (λ x. record { dots = x; coefficient = c }) xs
    ∙ sum_by-alike (λ x. cond (nat_eq x kept) c 0) (λ x. c * one_if (nat_eq kept x)) (λ x. test x kept c) xs
    ∙ sum_by-times (λ x. one_if (nat_eq kept x)) c xs
  where
    test : (x kept c : ℕ) → cond (nat_eq x kept) c 0 ≡ c * one_if (nat_eq kept x)
    test x kept c = ap (λ b. cond b c 0) (swapped x kept) ∙ taken (nat_eq kept x) c
      where
        swapped : (x y : ℕ) → nat_eq x y ≡ nat_eq y x
        swapped x y = grind (arith, nat_tests)

        taken : (b : Bool) (c : ℕ) → cond b c 0 ≡ c * one_if b
        taken true c = omega arith
        taken false c = omega arith

coefficient-listed : (points : Points) (m n o : List (ℕ × ℕ)) (first second : List Term) (kept : ℕ) → AreListed points m n o
    → kept < 2 ^ length (discs points m o)
    → coefficient_in (listed points m n o first second) kept ≡ composed_in 0 0 points m n o first second kept
coefficient-listed points m n o first second kept is below =
    let g = λ (term : Term). cond (nat_eq term.dots kept) term.coefficient 0 in
    sum_by-flat_map g (λ term. flat_map (composed_terms points m n o term) second) first
    ∙ sum_by-alike (λ term. sum_by g (flat_map (composed_terms points m n o term) second))
    (λ term. sum_by (λ other. term.coefficient * other.coefficient * composed 0 0 points m n o term.dots other.dots kept) second)
    (λ term. sum_by-flat_map g (composed_terms points m n o term) second
    ∙ sum_by-alike (λ other. sum_by g (composed_terms points m n o term other))
    (λ other. term.coefficient * other.coefficient * composed 0 0 points m n o term.dots other.dots kept)
    (λ other.
    let unit = product_over (factor_at points m n o term.dots other.dots) (components points m n o) in
    let count = count_by (nat_eq kept) (sets points m n o term.dots other.dots) in
    coefficient-chosen (term.coefficient * other.coefficient * unit) kept (sets points m n o term.dots other.dots)
    ∙ grouped (term.coefficient * other.coefficient) unit count
    ∙ ap (λ z. term.coefficient * other.coefficient * z)
    (sym (composed-chosen points m n o term.dots other.dots kept is below))) second) first
  where
    grouped : (a b c : ℕ) → a * b * c ≡ a * (b * c)
    grouped a b c = omega arith

pub all-flat : {X Y : Type 0} (P : Y → Type 0) (f : X → List Y) (xs : List X) → ((x : X) → AllByRecursion P (f x))
    → AllByRecursion P (flat_map f xs)
all-flat P f [] all = tt
all-flat P f (x ∷ xs) all = AllByRecursion-append P (f x) (flat_map f xs) (all x) (all-flat P f xs all)

abbrev with_coefficient : ℕ → ℕ → Term
with_coefficient c x = record { dots = x; coefficient = c }

abbrev pub IsBelow : ℕ → Term → Type 0
IsBelow n term = term.dots < n

terms-below : (n c : ℕ) (xs : List ℕ) → AllByRecursion (λ x. x < n) xs → AllByRecursion (IsBelow n) (map (with_coefficient c) xs)
terms-below n c [] all = tt
terms-below n c (x ∷ xs) all = (all.0, terms-below n c xs all.1)

pub below-as : (n k : ℕ) (xs : List ℕ) → n ≡ k → AllByRecursion (λ x. x < n) xs → AllByRecursion (λ x. x < k) xs
below-as n k xs same all = AllByRecursion-weaker (λ x. x < n) (λ x. x < k) xs (λ x below. omega (arith, same, below)) all

pub IsComposition-listed : (p : ℕ) (points : Points) (m n o : List (ℕ × ℕ)) (first second : List Term) → AreListed points m n o
    → IsComposition p 0 0 points m n o first second (listed points m n o first second)
IsComposition-listed p points m n o first second is =
    let k = 2 ^ length (discs points m o) in
    let same : 2 ^ length (places points m n o) ≡ k =
    ap (λ i. 2 ^ i) (length-map (discs points m o) (component_in points m n o)) in
    record {
      dots = all-flat (IsBelow k) (λ term. flat_map (composed_terms points m n o term) second) first
          (λ term. all-flat (IsBelow k) (composed_terms points m n o term) second
          (λ other. terms-below k
          (term.coefficient * other.coefficient
          * product_over (factor_at points m n o term.dots other.dots) (components points m n o))
          (sets points m n o term.dots other.dots)
          (below-as (2 ^ length (places points m n o)) k (sets points m n o term.dots other.dots) same
          (choices-below (components points m n o) (places points m n o) (undotted_at points m n o term.dots other.dots)))));
      coefficients = λ kept below. ap (λ z. z % p) (coefficient-listed points m n o first second kept is below);
    }
