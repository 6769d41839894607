-- The composition as a list for all h and k. A dot set is chosen once, or some component has dots of the terms and a disc without a dot:
-- by induction on the discs, as in ChoiceCounts. In the latter case that component's weight is 0, for it has dots and hollow dots; and so
-- is the coefficient of the composition, which is a product of weights. In the former the list has the product itself.
use Rattle.std.proofs.Common.{◌≡◌, ◌≢◌, ℕ, zero, suc, ◌⊎◌, inl, inr, ◌+◌, ◌-◌, ◌*◌, ◌/◌, ◌%◌, ◌^◌, ◌<◌, ◌∙◌, List, [], ◌∷◌, map, length, refl, sym, ap, ap₂, arith, Bool, true, false, cond, ◌&&◌, eq-eqb}
use Rattle.std.specs.Prelude.{nat_eq}
use Rattle.std.specs.List.{flat_map, count_by, sum_by, AllByRecursion, Contains}
use Rattle.std.proofs.Math.Nat.{pow-suc}
use Rattle.std.proofs.lemmas.Bool.{cases_eq, ne_eqb}
use Rattle.std.proofs.lemmas.Bool.Decides.{nat_tests}
use Rattle.std.proofs.lemmas.List.{length-map}
use Rattle.std.proofs.lemmas.List.Sums.{sum_by-append}
use Rattle.kh_types.specs.Bits.{bit}
use Rattle.kh_types.proofs.ListSums.{sum_by-map, sum_by-alike, sum_by-times, sum_by-flat_map}
use Rattle.kh_types.proofs.Lists.{AllByRecursion-append, Contains-first, Contains-later}
use Rattle.surface_laws.specs.Surfaces.{weight}
use Rattle.surface_laws.proofs.Components.{AllByRecursion-at}
use Rattle.surface_laws.specs.Points.{Points, discs}
use Rattle.dotted_maps.specs.Composition.{composed}
use Rattle.dotted_maps.specs.Parts.{components, component_in, undotted_on, genus_in, product_over, part_at}
use Rattle.dotted_maps.specs.Maps.{coefficient_in, composed_in, IsComposition}
use Rattle.dotted_maps.specs.declared.term.Term.{Term}
use Rattle.dotted_maps.specs.Choices.{listed, dots_at, free_choices, terms_with, listed_with}
use Rattle.dotted_maps.proofs.ComponentParts.{composed-parts}
use Rattle.dotted_maps.proofs.ChoiceCounts.{zeros, undotted-zeros, halved, even-bit, count-odd, count-odd_none, count-even, count-even_none, none-left, all-maps}
use Rattle.dotted_maps.proofs.Listed.{AreListed, places, places-named, whole-number, all-flat, IsBelow, below-as, IsComposition-listed}

abbrev one_if : Bool → ℕ
one_if b = cond b 1 0

-- a component with dots of the terms and with a disc that has none
record IsBarred (cs : List ℕ) (dots : ℕ → ℕ) (s : ℕ) : Type 0 where
  pub component : ℕ
  pub has : Contains cs component
  pub dotted : dots component ≢ 0
  pub undotted : zeros cs component s ≢ 0

barred-later : (c : ℕ) (cs : List ℕ) (dots : ℕ → ℕ) (s : ℕ) → IsBarred cs dots (s / 2) → IsBarred (c ∷ cs) dots s
barred-later c cs dots s barred = record {
  component = barred.component;
  has = Contains-later c barred.component cs barred.has;
  dotted = barred.dotted;
  undotted = λ none. barred.undotted (omega (arith, none));
}

barred-here : (c : ℕ) (cs : List ℕ) (dots : ℕ → ℕ) (s : ℕ) → bit s 0 ≡ 0 → dots c ≢ 0 → IsBarred (c ∷ cs) dots s
barred-here c cs dots s even dotted = record {
  component = c;
  has = Contains-first c cs;
  dotted = dotted;
  undotted = λ none. some c (bit s 0) (zeros cs c (s / 2)) even none;
}
  where
    some : (c b z : ℕ) → b ≡ 0 → cond (nat_eq c c) (1 - b) 0 + z ≢ 0
    some c b z even none = grind (arith, nat_tests)

abbrev even_part : List ℕ → (ℕ → ℕ) → Bool → List ℕ
even_part cs dots b = cond b (map (λ s. 2 * s) (free_choices cs dots)) []

free-counted : (cs : List ℕ) (dots : ℕ → ℕ) (s : ℕ) → s < 2 ^ length cs
    → (count_by (nat_eq s) (free_choices cs dots) ≡ 1) ⊎ IsBarred cs dots s
free-counted [] dots s below = inl (none-left true s (omega (arith, below)))
free-counted (c ∷ cs) dots s below =
    let half : s / 2 < 2 ^ length cs = omega (arith, below, pow-suc 2 (length cs)) in
    let split : count_by (nat_eq s) (free_choices (c ∷ cs) dots)
    ≡ count_by (nat_eq s) (map (λ x. 1 + 2 * x) (free_choices cs dots))
    + count_by (nat_eq s) (even_part cs dots (nat_eq (dots c) 0)) =
    sum_by-append (λ x. one_if (nat_eq s x)) (map (λ x. 1 + 2 * x) (free_choices cs dots)) (even_part cs dots (nat_eq (dots c) 0)) in
    elim (halved s) [
      | inl even ↦ elim (cases_eq (dots c) 0) [
        | inr some ↦ inr (barred-here c cs dots s (even-bit s even) some)
        | inl none ↦ elim (free-counted cs dots (s / 2) half) [
          | inr barred ↦ inr (barred-later c cs dots s barred)
          | inl one ↦
              inl (split ∙ ap₂ (λ x y. x + y) (count-odd_none s (free_choices cs dots) even)
              (ap (λ b. count_by (nat_eq s) (even_part cs dots b)) (eq-eqb (dots c) 0 none)
              ∙ count-even s (free_choices cs dots) even ∙ one))
        ]
      ]
      | inr odd ↦ elim (free-counted cs dots (s / 2) half) [
        | inr barred ↦ inr (barred-later c cs dots s barred)
        | inl one ↦
            inl (split ∙ ap₂ (λ x y. x + y) (count-odd s (free_choices cs dots) odd ∙ one) (none (nat_eq (dots c) 0) odd))
      ]
    ]
  where
    none : (b : Bool) → s ≡ 1 + 2 * (s / 2) → count_by (nat_eq s) (even_part cs dots b) ≡ 0
    none true odd = count-even_none s (free_choices cs dots) odd
    none false odd = refl

pub free-below : (cs : List ℕ) (dots : ℕ → ℕ) → AllByRecursion (λ s. s < 2 ^ length cs) (free_choices cs dots)
free-below [] dots = (omega arith, tt)
free-below (c ∷ cs) dots =
    let n = 2 ^ length cs in
    let m = 2 ^ length (c ∷ cs) in
    let twice : 2 ^ length (c ∷ cs) ≡ 2 ^ length cs * 2 = pow-suc 2 (length cs) in
    let evens = all-maps n m (λ x. 2 * x) (free_choices cs dots) (λ x below. omega (arith, below, twice)) (free-below cs dots) in
    AllByRecursion-append (λ s. s < m) (map (λ x. 1 + 2 * x) (free_choices cs dots)) (even_part cs dots (nat_eq (dots c) 0))
    (all-maps n m (λ x. 1 + 2 * x) (free_choices cs dots) (λ x below. omega (arith, below, twice)) (free-below cs dots))
    (elim (nat_eq (dots c) 0) as (λ b. AllByRecursion (λ s. s < m) (even_part cs dots b)) [ true ↦ evens | false ↦ tt ])

-- both kinds of dots count 0, and so does a product with them
weight-both : (h k genus dots hollows : ℕ) → dots ≢ 0 → hollows ≢ 0 → weight h k genus dots hollows ≡ 0
weight-both h k genus zero hollows some_dots some_hollows = absurd (some_dots refl)
weight-both h k genus (suc dots) zero some_dots some_hollows = absurd (some_hollows refl)
weight-both h k genus (suc dots) (suc hollows) some_dots some_hollows = refl

product-none : (f : ℕ → ℕ) (xs : List ℕ) (x : ℕ) → Contains xs x → f x ≡ 0 → product_over f xs ≡ 0
product-none f [] x (i, below, is) none = absurd (omega (arith, below))
product-none f (y ∷ xs) x (zero, below, is) none = ap (λ z. z * product_over f xs) (ap f is ∙ none) ∙ zero_times (product_over f xs)
  where
    zero_times : (x : ℕ) → 0 * x ≡ 0
    zero_times x = omega arith
product-none f (y ∷ xs) x (suc i, below, is) none =
    ap (λ z. f y * z) (product-none f xs x (i, omega (arith, below), is) none) ∙ times_zero (f y)
  where
    times_zero : (x : ℕ) → x * 0 ≡ 0
    times_zero x = omega arith

-- the coefficient of a dot set in such a list
coefficient-free : (f : ℕ → ℕ) (kept : ℕ) (xs : List ℕ)
    → coefficient_in (map (λ x. record { dots = x; coefficient = f x }) xs) kept ≡ f kept * count_by (nat_eq kept) xs
coefficient-free f kept xs =
    sum_by-map (λ term. cond (nat_eq term.dots kept) term.coefficient 0) (λ x. record { dots = x; coefficient = f x }) xs
    ∙ sum_by-alike (λ x. cond (nat_eq x kept) (f x) 0) (λ x. f kept * one_if (nat_eq kept x)) (λ x. test x) xs
    ∙ sum_by-times (λ x. one_if (nat_eq kept x)) (f kept) xs
  where
    one_time : (x : ℕ) → x ≡ x * 1
    one_time x = omega arith

    times_zero : (x : ℕ) → 0 ≡ x * 0
    times_zero x = omega arith

    test : (x : ℕ) → cond (nat_eq x kept) (f x) 0 ≡ f kept * one_if (nat_eq kept x)
    test x = elim (cases_eq x kept) [
      | inl same ↦
          ap (λ b. cond b (f x) 0) (eq-eqb x kept same) ∙ ap f same ∙ one_time (f kept)
          ∙ ap (λ b. f kept * one_if b) (sym (eq-eqb kept x (sym same)))
      | inr other ↦
          ap (λ b. cond b (f x) 0) (ne_eqb x kept other) ∙ times_zero (f kept)
          ∙ ap (λ b. f kept * one_if b) (sym (ne_eqb kept x (λ is. other (sym is))))
    ]

-- for two terms
coefficient-with : (h k : ℕ) (points : Points) (m n o : List (ℕ × ℕ)) (term other : Term) (kept : ℕ) → AreListed points m n o
    → kept < 2 ^ length (discs points m o)
    → coefficient_in (terms_with h k points m n o term other) kept
    ≡ term.coefficient * other.coefficient * composed h k points m n o term.dots other.dots kept
coefficient-with h k points m n o term other kept is below =
    let names = components points m n o in
    let cs = places points m n o in
    let dots = dots_at points m n o term.dots other.dots in
    let part = part_at h k points m n o term.dots other.dots kept in
    let c = term.coefficient * other.coefficient in
    let product = λ (x : ℕ). product_over (part_at h k points m n o term.dots other.dots x) names in
    let whole : composed h k points m n o term.dots other.dots kept ≡ product kept =
    composed-parts h k points m n o term.dots other.dots kept is.placed is.pairing is.first is.second is.third in
    let within : kept < 2 ^ length cs =
    omega (arith, below, ap (λ i. 2 ^ i) (length-map (discs points m o) (component_in points m n o))) in
    coefficient-free (λ x. c * product x) kept (free_choices cs dots)
    ∙ elim (free-counted cs dots kept within) [
      | inl one ↦
          ap (λ i. c * product kept * i) one ∙ one_time (c * product kept) ∙ ap (λ z. c * z) (sym whole)
      | inr barred ↦
          let left : undotted_on points m n o barred.component kept (discs points m o) ≢ 0 =
          λ nothing. barred.undotted
          (sym (undotted-zeros (component_in points m n o) (discs points m o) barred.component kept 0
          ∙ ap (zeros cs barred.component) (whole-number kept)) ∙ nothing) in
          let none : product kept ≡ 0 =
          product-none part names barred.component
          (AllByRecursion-at (λ x. Contains names x) cs barred.component (places-named points m n o is) barred.has)
          (weight-both h k (genus_in points m n o barred.component) (dots barred.component)
          (undotted_on points m n o barred.component kept (discs points m o)) barred.dotted left) in
          ap (λ z. c * z * count_by (nat_eq kept) (free_choices cs dots)) none
          ∙ nothing_left c (count_by (nat_eq kept) (free_choices cs dots)) ∙ ap (λ z. c * z) (sym (whole ∙ none))
    ]
  where
    one_time : (x : ℕ) → x * 1 ≡ x
    one_time x = omega arith

    nothing_left : (c i : ℕ) → c * 0 * i ≡ c * 0
    nothing_left c i = omega arith

-- for two maps
abbrev all_with : ℕ → ℕ → Points → List (ℕ × ℕ) → List (ℕ × ℕ) → List (ℕ × ℕ) → List Term → List Term → List Term
all_with h k points m n o first second = flat_map (λ term. flat_map (terms_with h k points m n o term) second) first

coefficient-all : (h k : ℕ) (points : Points) (m n o : List (ℕ × ℕ)) (first second : List Term) (kept : ℕ) → AreListed points m n o
    → kept < 2 ^ length (discs points m o)
    → coefficient_in (all_with h k points m n o first second) kept ≡ composed_in h k points m n o first second kept
coefficient-all h k points m n o first second kept is below =
    let g = λ (term : Term). cond (nat_eq term.dots kept) term.coefficient 0 in
    sum_by-flat_map g (λ term. flat_map (terms_with h k points m n o term) second) first
    ∙ sum_by-alike (λ term. sum_by g (flat_map (terms_with h k points m n o term) second))
    (λ term. sum_by (λ other. term.coefficient * other.coefficient * composed h k points m n o term.dots other.dots kept) second)
    (λ term. sum_by-flat_map g (terms_with h k points m n o term) second
    ∙ sum_by-alike (λ other. sum_by g (terms_with h k points m n o term other))
    (λ other. term.coefficient * other.coefficient * composed h k points m n o term.dots other.dots kept)
    (λ other. coefficient-with h k points m n o term other kept is below) second) first

terms-below : (n : ℕ) (f : ℕ → ℕ) (xs : List ℕ) → AllByRecursion (λ x. x < n) xs
    → AllByRecursion (IsBelow n) (map (λ x. record { dots = x; coefficient = f x }) xs)
terms-below n f [] all = tt
terms-below n f (x ∷ xs) all = (all.0, terms-below n f xs all.1)

IsComposition-all : (p h k : ℕ) (points : Points) (m n o : List (ℕ × ℕ)) (first second : List Term) → AreListed points m n o
    → IsComposition p h k points m n o first second (all_with h k points m n o first second)
IsComposition-all p h k points m n o first second is =
    let i = 2 ^ length (discs points m o) in
    let cs = places points m n o in
    let same : 2 ^ length cs ≡ i = ap (λ j. 2 ^ j) (length-map (discs points m o) (component_in points m n o)) in
    record {
      dots = all-flat (IsBelow i) (λ term. flat_map (terms_with h k points m n o term) second) first
          (λ term. all-flat (IsBelow i) (terms_with h k points m n o term) second
          (λ other. terms-below i
          (λ kept. term.coefficient * other.coefficient
          * product_over (part_at h k points m n o term.dots other.dots kept) (components points m n o))
          (free_choices cs (dots_at points m n o term.dots other.dots))
          (below-as (2 ^ length cs) i (free_choices cs (dots_at points m n o term.dots other.dots)) same
          (free-below cs (dots_at points m n o term.dots other.dots)))));
      coefficients = λ kept below. ap (λ z. z % p) (coefficient-all h k points m n o first second kept is below);
    }

pub IsComposition-listed_with : (p h k : ℕ) (points : Points) (m n o : List (ℕ × ℕ)) (first second : List Term)
    → AreListed points m n o
    → IsComposition p h k points m n o first second (listed_with h k points m n o first second)
IsComposition-listed_with p h k points m n o first second is = elim (cases_eq h 0) [
  | inr some ↦ other_list (nat_eq h 0 && nat_eq k 0) (ap (λ b. b && nat_eq k 0) (ne_eqb h 0 some))
  | inl none ↦ elim (cases_eq k 0) [
    | inr some ↦ other_list (nat_eq h 0 && nat_eq k 0) (ap₂ (λ b d. b && d) (eq-eqb h 0 none) (ne_eqb k 0 some))
    | inl neither ↦ plain_list none neither
  ]
]
  where
    plain_list : h ≡ 0 → k ≡ 0 → IsComposition p h k points m n o first second (listed_with h k points m n o first second)
    plain_list none neither = rw (none, neither) (IsComposition-listed p points m n o first second is)

    other_list : (b : Bool) → b ≡ false
        → IsComposition p h k points m n o first second
        (cond b (listed points m n o first second) (all_with h k points m n o first second))
    other_list b not = rw (not) (IsComposition-all p h k points m n o first second is)
