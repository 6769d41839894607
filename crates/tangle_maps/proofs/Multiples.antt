-- A number times the identity, and a map after it, are that map times the number.
-- Where the first two of three pairings are one, the components are the discs of it and the third (`components-same`), so each component has one
-- disc of the second map and one of the composition; its genus is 0 (`genus-none`). The dots that are left to choose are then those of the
-- second map: each of its dot sets has one choice, itself (`choices-itself`).
use Rattle.std.proofs.Common.{◌≡◌, ◌≢◌, ℕ, zero, suc, inl, inr, ◌+◌, ◌-◌, ◌*◌, ◌/◌, ◌%◌, ◌^◌, ◌<◌, ◌≤◌, ◌∙◌, List, [], ◌∷◌, ◌++◌, map, length, get_or, refl, sym, subst, ap, ap₂, arith, Bool, true, false, cond, ◌&&◌, eq-eqb, Some}
use Rattle.std.specs.Prelude.{nat_eq, slice_index}
use Rattle.std.specs.List.{count_by, enumerate_from, filter, flat_map, list_all, Contains}
use Rattle.std.proofs.Math.Nat.{mod-mod, pow-suc, zero-div}
use Rattle.std.proofs.lemmas.Bool.{cases_eq, ne_eqb}
use Rattle.std.proofs.lemmas.Bool.Decides.{nat_tests}
use Rattle.std.proofs.lemmas.List.{append-nil, get_or_default, get_or-map}
use Rattle.std.proofs.lemmas.List.Sorted.{sum_by-IsPermutation}
use Rattle.std.proofs.lemmas.List.Sums.{sum_by-cons}
use Rattle.kh_types.specs.Bits.{bit}
use Rattle.kh_types.specs.Classes.{classes_of, is_least, Respects}
use Rattle.kh_types.proofs.ClassLemmas.{classes-together}
use Rattle.kh_types.proofs.JoinedClasses.{classes_of-same}
use Rattle.kh_types.proofs.Residues.{same-mul}
use Rattle.kh_types.proofs.ListSums.{sum_by-alike, sum_by-zeros}
use Rattle.kh_types.proofs.Lists.{AllByRecursion-append, AllByRecursion-first, AllByRecursion-second, count_by-map}
use Rattle.surface_laws.specs.Points.{ArePlaced, AreAmong, IsOpenPairing, Points, discs, ends_of}
use Rattle.surface_laws.proofs.Components.{AllByRecursion-weaker}
use Rattle.dotted_maps.specs.declared.term.Term.{Term}
use Rattle.dotted_maps.specs.Choices.{choices, composed_terms, factor_at, fewer, listed, load_on, undotted_at}
use Rattle.dotted_maps.specs.Maps.{AreDotted, coefficient_in, scaled}
use Rattle.dotted_maps.specs.Parts.{component_in, components, dotted_on, genus_in, how_many, product_over}
use Rattle.dotted_maps.proofs.LeastPoints.{AreAmong-append, AreJoins, joins-below}
use Rattle.dotted_maps.proofs.Identities.{sum-one, opened-below}
use Rattle.dotted_maps.proofs.Pairs.{pairs-counted}
use Rattle.tangle_maps.proofs.ChoiceLemmas.{choices-none}
use Rattle.tangle_maps.proofs.SeamLemmas.{least-named}
use Rattle.tangle_maps.proofs.LawLemmas.{number-told}
use Rattle.tangle_maps.proofs.SumLemmas.{IsSum-alike, coefficient-scaled}
use Rattle.tangle_maps.proofs.WayLemmas.{WayFacts}
use Rattle.tangle_maps.specs.declared.way.Way.{Way}
use Rattle.tangle_maps.specs.Pairings.{joins_of}
use Rattle.tangle_maps.specs.Sums.{AreReduced, HaveDotsBelow, IsSum, number_in, dotted_term, dotted_times}
use Rattle.tangle_maps.specs.Ways.{HasReducedMaps, IsMultiple, joins_from, joins_over, joins_to, listed_along, points_on}
use Rattle.surface_laws.proofs.Labels.{bit-next}

-- lists without doubles

abbrev times_in : ℕ → List ℕ → ℕ
times_in k xs = count_by (λ x. nat_eq x k) xs

abbrev pub AreOnce : List ℕ → Type 0
AreOnce xs = (k : ℕ) → times_in k xs ≤ 1

later-in : (x k : ℕ) (xs : List ℕ) → Contains xs k → Contains (x ∷ xs) k
later-in x k xs (i, below, is) = (suc i, omega (arith, below), is)

in-some : (k : ℕ) (xs : List ℕ) → Contains xs k → 1 ≤ times_in k xs
in-some k [] has = absurd (omega (arith, has.1))
in-some k (x ∷ xs) (zero, below, is) =
    let split = sum_by-cons (λ y. cond (nat_eq y k) 1 0) x xs in
    let one = ap {B = ℕ} (λ b. cond b 1 0) (eq-eqb x k is) in
    omega (arith, split, one)
in-some k (x ∷ xs) (suc i, below, is) =
    let split = sum_by-cons (λ y. cond (nat_eq y k) 1 0) x xs in
    omega (arith, split, in-some k xs (i, omega (arith, below), is))

filter-fewer : (p test : ℕ → Bool) (xs : List ℕ) → count_by p (filter test xs) ≤ count_by p xs
filter-fewer p test [] = omega arith
filter-fewer p test (x ∷ xs) =
    elim (test x) as (λ b. count_by p (cond b (x ∷ filter test xs) (filter test xs)) ≤ count_by p (x ∷ xs)) [
      | true ↦
          omega (
            arith,
            sum_by-cons (λ y. cond (p y) 1 0) x (filter test xs),
            sum_by-cons (λ y. cond (p y) 1 0) x xs,
            filter-fewer p test xs,
          )
      | false ↦ omega (arith, sum_by-cons (λ y. cond (p y) 1 0) x xs, filter-fewer p test xs)
    ]

-- the one choice

all-done : (left : ℕ → ℕ) (names : List ℕ) → ((k : ℕ) → Contains names k → left k ≡ 0) → list_all (λ k. nat_eq (left k) 0) names ≡ true
all-done left [] none = refl
all-done left (x ∷ names) none =
    ap₂ (λ a b. a && b) (eq-eqb (left x) 0 (none x (0, omega arith, refl)))
    (all-done left names (λ k has. none k (later-in x k names has)))

in-cases : (x k : ℕ) (xs : List ℕ) → (k ≢ x) → (Contains xs k → ⊥) → Contains (x ∷ xs) k → ⊥
in-cases x k xs apart not_later (zero, below, is) = apart (sym is)
in-cases x k xs apart not_later (suc i, below, is) = not_later (i, omega (arith, below), is)

once-later : (x : ℕ) (xs : List ℕ) → AreOnce (x ∷ xs) → AreOnce xs
once-later x xs once k = omega (arith, once k, sum_by-cons (λ y. cond (nat_eq y k) 1 0) x xs)

once-first : (x : ℕ) (xs : List ℕ) → AreOnce (x ∷ xs) → times_in x xs ≡ 0
once-first x xs once =
    omega (
      arith,
      once x,
      sum_by-cons (λ y. cond (nat_eq y x) 1 0) x xs,
      ap {B = ℕ} (λ b. cond b 1 0) (eq-eqb x x refl),
    )

first-alone : (x : ℕ) (xs : List ℕ) → AreOnce (x ∷ xs) → Contains xs x → ⊥
first-alone x xs once has = omega (arith, once-first x xs once, in-some x xs has)

choices-itself : (names ks : List ℕ) (left : ℕ → ℕ) (d : ℕ) → AreOnce ks → ((k : ℕ) → Contains ks k → Contains names k)
    → ((k : ℕ) → Contains names k → (Contains ks k → ⊥) → left k ≡ 0) → ((i : ℕ) → i < length ks → left (get_or ks i 0) ≡ 1 - bit d i)
    → d < 2 ^ length ks → choices names ks left ≡ d ∷ []
choices-itself names [] left d once named others mine below =
    let none : d ≡ 0 = omega (arith, below) in
    ap (λ b. cond b (0 ∷ []) []) (all-done left names (λ k has. others k has (λ (i, within, is). omega (arith, within))))
    ∙ ap (λ x. x ∷ []) (sym none)
choices-itself names (k ∷ ks) left d once named others mine below =
    let half : d / 2 < 2 ^ length ks = omega (arith, below, pow-suc 2 (length ks)) in
    let has : Contains names k = named k (0, omega arith, refl) in
    let alone = first-alone k ks once in
    let later = λ (i : ℕ) (within : i < length ks).
    mine (suc i) (omega (arith, within)) ∙ ap (λ b. 1 - b) (let e : suc i ≡ i + 1 = omega arith in ap (bit d) e ∙ bit-next d i) in
    let zeroth : left k ≡ 1 - bit d 0 = mine 0 (omega arith) in
    elim (cases_eq (d % 2) 0) [
      | inl even ↦
          let some : left k ≢ 0 = λ none. absurd (omega (arith, zeroth, none, even)) in
          let behind : choices names ks (fewer k left) ≡ d / 2 ∷ [] =
          choices-itself names ks (fewer k left) (d / 2) (once-later k ks once) (λ j in_ks. named j (later-in k j ks in_ks))
          (λ j in_names not_ks. elim (cases_eq j k) [
            | inl same ↦ at-same j same zeroth even
            | inr apart ↦ at-other j apart ∙ others j in_names (in-cases k j ks apart not_ks)
          ])
          (λ i within.
          at-other (get_or ks i 0) (λ same. alone (i, within, sym (get_or_default ks i 0 k within) ∙ same)) ∙ later i within)
          half in
          ap₂ (λ xs ys. map (λ s. 1 + 2 * s) xs ++ cond (nat_eq (left k) 0) [] (map (λ s. 2 * s) ys))
          (choices-none names ks left k has some (once-first k ks once)) behind
          ∙ ap (λ b. cond b [] ((2 * (d / 2)) ∷ [])) (ne_eqb (left k) 0 some) ∙ ap (λ x. x ∷ []) (doubled even)
      | inr odd ↦
          let none : left k ≡ 0 = omega (arith, zeroth, odd) in
          let behind : choices names ks left ≡ d / 2 ∷ [] =
          choices-itself names ks left (d / 2) (once-later k ks once) (λ j in_ks. named j (later-in k j ks in_ks))
          (λ j in_names not_ks. elim (cases_eq j k) [
            | inl same ↦ ap left same ∙ none
            | inr apart ↦ others j in_names (in-cases k j ks apart not_ks)
          ]) later half in
          ap (λ xs. map (λ s. 1 + 2 * s) xs ++ cond (nat_eq (left k) 0) [] (map (λ s. 2 * s) (choices names ks (fewer k left)))) behind
          ∙ ap (λ b. (1 + 2 * (d / 2)) ∷ cond b [] (map (λ s. 2 * s) (choices names ks (fewer k left)))) (eq-eqb (left k) 0 none)
          ∙ ap (λ x. x ∷ []) (odds odd)
    ]
  where
    at-other : (j : ℕ) → j ≢ k → fewer k left j ≡ left j
    at-other j apart = ap (λ b. cond b (left j - 1) (left j)) (ne_eqb j k apart)

    at-same : (j : ℕ) → j ≡ k → left k ≡ 1 - bit d 0 → d % 2 ≡ 0 → fewer k left j ≡ 0
    at-same j same is even =
        ap (λ b. cond b (left j - 1) (left j)) (eq-eqb j k same) ∙ ap (λ x. left x - 1) same ∙ omega (arith, is, even)

    doubled : d % 2 ≡ 0 → 2 * (d / 2) ≡ d
    doubled even = omega (arith, even)

    odds : d % 2 ≢ 0 → 1 + 2 * (d / 2) ≡ d
    odds odd = omega (arith, odd)

-- the components of a pairing twice and another are their discs

pub record IsDoubled (points : Points) (m o : List (ℕ × ℕ)) : Type 0 where
  pub placed : ArePlaced points
  pub pairing : IsOpenPairing points m
  pub first : AreAmong points.opened m
  pub third : AreAmong points.opened o

two-joins : (points : Points) (m o : List (ℕ × ℕ)) → IsDoubled points m o → AreJoins points.size points.opened (m ++ o)
two-joins points m o is = record {
  below = opened-below points is.placed;
  among = AreAmong-append points.opened m o is.first is.third;
}

three-joins : (points : Points) (m o : List (ℕ × ℕ)) → IsDoubled points m o → AreJoins points.size points.opened (m ++ (o ++ m))
three-joins points m o is = record {
  below = opened-below points is.placed;
  among = AreAmong-append points.opened m (o ++ m) is.first (AreAmong-append points.opened o m is.third is.first);
}

same-classes : (points : Points) (m o : List (ℕ × ℕ)) → IsDoubled points m o
    → classes_of points.size (m ++ (o ++ m)) ≡ classes_of points.size (m ++ o)
same-classes points m o is =
    classes_of-same points.size (m ++ (o ++ m)) (m ++ o)
    (joins-below points.size points.opened (m ++ (o ++ m)) (three-joins points m o is))
    (joins-below points.size points.opened (m ++ o) (two-joins points m o is))
    (λ f respects.
    let Meets : ℕ × ℕ → Type 0 = λ pair. f pair.0 ≡ f pair.1 in
    AllByRecursion-append Meets m o (AllByRecursion-first Meets m (o ++ m) respects)
    (AllByRecursion-first Meets o m (AllByRecursion-second Meets m (o ++ m) respects)))
    (λ f respects.
    let Meets : ℕ × ℕ → Type 0 = λ pair. f pair.0 ≡ f pair.1 in
    AllByRecursion-append Meets m (o ++ m) (AllByRecursion-first Meets m o respects)
    (AllByRecursion-append Meets o m (AllByRecursion-second Meets m o respects) (AllByRecursion-first Meets m o respects)))

components-same : (points : Points) (m o : List (ℕ × ℕ)) → IsDoubled points m o → components points m m o ≡ discs points m o
components-same points m o is = ap (λ c. filter (is_least c) points.opened) (same-classes points m o is)

named-same : (points : Points) (m o : List (ℕ × ℕ)) → IsDoubled points m o
    → map (component_in points m m o) (discs points m o) ≡ discs points m o
named-same points m o is =
    let classes = classes_of points.size (m ++ o) in
    ap (λ c. map (slice_index c) (discs points m o)) (same-classes points m o is) ∙ least-named classes points.opened

own-name : (points : Points) (m o : List (ℕ × ℕ)) (i : ℕ) → IsDoubled points m o → i < length (discs points m o)
    → component_in points m m o (get_or (discs points m o) i 0) ≡ get_or (discs points m o) i 0
own-name points m o i is below =
    let ds = discs points m o in
    sym (get_or-map (component_in points m m o) ds i 0 0 below) ∙ ap (λ xs. get_or xs i 0) (named-same points m o is)

discs-once : (points : Points) (m o : List (ℕ × ℕ)) → IsDoubled points m o → AreOnce (discs points m o)
discs-once points m o is k =
    omega (
      arith,
      filter-fewer (λ x. nat_eq x k) (is_least (classes_of points.size (m ++ o))) points.opened,
      sum_by-IsPermutation (λ x. cond (nat_eq x k) 1 0) points.opened (ends_of m) is.pairing.ends,
      turned (ends_of m),
      is.pairing.once k,
    )
  where
    turned : (xs : List ℕ) → times_in k xs ≡ count_by (nat_eq k) xs
    turned xs = sum_by-alike (λ x. cond (nat_eq x k) 1 0) (λ x. cond (nat_eq k x) 1 0) (λ x. ap (λ b. cond b 1 0) (swapped x k)) xs
      where
        swapped : (x y : ℕ) → nat_eq x y ≡ nat_eq y x
        swapped x y = grind (arith, nat_tests)

-- their genus is 0

abbrev amount : Points → List (ℕ × ℕ) → List (ℕ × ℕ) → ℕ → ℕ → ℕ
amount points m o k x = cond (nat_eq (component_in points m m o x) k) 1 0

amount-respects : (points : Points) (m o : List (ℕ × ℕ)) (k : ℕ) → IsDoubled points m o → Respects (amount points m o k) m
amount-respects points m o k is =
    let f = component_in points m m o in
    let joined = joins-below points.size points.opened (m ++ (o ++ m)) (three-joins points m o is) in
    AllByRecursion-weaker (λ pair. f pair.0 ≡ f pair.1) (λ pair. amount points m o k pair.0 ≡ amount points m o k pair.1) m
    (λ pair same. ap (λ c. cond (nat_eq c k) 1 0) same)
    (AllByRecursion-first (λ pair. f pair.0 ≡ f pair.1) m (o ++ m) (classes-together points.size (m ++ (o ++ m)) joined))

one-disc : (points : Points) (m o : List (ℕ × ℕ)) (k : ℕ) → IsDoubled points m o → Contains (discs points m o) k
    → how_many points m m o k (discs points m o) ≡ 1
one-disc points m o k is has =
    let ds = discs points m o in
    let f = component_in points m m o in
    let counted : how_many points m m o k ds ≡ times_in k ds =
    sym (count_by-map (λ x. nat_eq x k) f ds) ∙ ap (times_in k) (named-same points m o is) in
    omega (arith, counted, discs-once points m o is k, in-some k ds has)

genus-none : (points : Points) (m o : List (ℕ × ℕ)) (k : ℕ) → IsDoubled points m o → Contains (discs points m o) k
    → genus_in points m m o k ≡ 0
genus-none points m o k is has =
    omega (
      arith,
      one-disc points m o k is has,
      pairs-counted points m (amount points m o k) (opened-below points is.placed) is.pairing is.first (amount-respects points m o k is),
    )

-- so its load is the dot of its disc

no-dots : (points : Points) (m o : List (ℕ × ℕ)) (k : ℕ) (arcs : List ℕ) → dotted_on points m m o k 0 arcs ≡ 0
no-dots points m o k arcs =
    sum_by-zeros (λ at. cond (nat_eq (component_in points m m o at.1) k) (bit 0 at.0) 0) (enumerate_from 0 arcs)
    (λ at. nothing (nat_eq (component_in points m m o at.1) k) (bit 0 at.0) (ap (λ q. q % 2) (zero-div (2 ^ at.0))))
  where
    nothing : (b : Bool) (n : ℕ) → n ≡ 0 → cond b n 0 ≡ 0
    nothing true n none = none
    nothing false n none = refl

load-dot : (points : Points) (m o : List (ℕ × ℕ)) (others i : ℕ) → IsDoubled points m o → i < length (discs points m o)
    → load_on points m m o 0 others (get_or (discs points m o) i 0) ≡ bit others i
load-dot points m o others i is below =
    let ds = discs points m o in
    let k = get_or ds i 0 in
    let f = component_in points m m o in
    let has : Contains ds k = (i, below, get_or_default ds i k 0 below) in
    ap₂ (λ a b. a + b)
    (ap₂ (λ a b. a + b) (no-dots points m o k (discs points m m))
    (sum-one (λ x. nat_eq (f x) k) (bit others) ds 0 i (one-disc points m o k is has) below
    (eq-eqb (f k) k (own-name points m o i is below)) ∙ ap (bit others) (from_zero i)))
    (genus-none points m o k is has)
    ∙ alone (bit others i)
  where
    from_zero : (i : ℕ) → 0 + i ≡ i
    from_zero i = omega arith

    alone : (x : ℕ) → 0 + x + 0 ≡ x
    alone x = omega arith

-- and a number times the identity scales

one-at : (points : Points) (m o : List (ℕ × ℕ)) (others i : ℕ) → IsDoubled points m o → i < length (discs points m o)
    → factor_at points m m o 0 others (get_or (discs points m o) i 0) ≡ 1
one-at points m o others i is below =
    let ds = discs points m o in
    let k = get_or ds i 0 in
    let load = load-dot points m o others i is below in
    let genus = genus-none points m o k is (i, below, get_or_default ds i k 0 below) in
    ap₂ (λ l g. cond (nat_eq l 1) (1 + g) (cond (nat_eq l 0) 1 0)) load genus ∙ by-bit (bit others i) (bit-below others i)
  where
    bit-below : (n k : ℕ) → bit n k < 2
    bit-below n k = omega arith

    by-bit : (b : ℕ) → b < 2 → cond (nat_eq b 1) (1 + 0) (cond (nat_eq b 0) 1 0) ≡ 1
    by-bit zero below = refl
    by-bit (suc zero) below = refl
    by-bit (suc (suc b)) below = absurd (omega (arith, below))

product-ones : (f : ℕ → ℕ) (xs : List ℕ) → ((i : ℕ) → i < length xs → f (get_or xs i 0) ≡ 1) → product_over f xs ≡ 1
product-ones f [] ones = refl
product-ones f (x ∷ xs) ones =
    ap₂ (λ a b. a * b) (ones 0 (omega arith)) (product-ones f xs (λ i below. ones (suc i) (omega (arith, below))))

one-factor : (points : Points) (m o : List (ℕ × ℕ)) (others : ℕ) → IsDoubled points m o
    → product_over (factor_at points m m o 0 others) (components points m m o) ≡ 1
one-factor points m o others is =
    ap (product_over (factor_at points m m o 0 others)) (components-same points m o is)
    ∙ product-ones (factor_at points m m o 0 others) (discs points m o) (λ i below. one-at points m o others i is below)

one-choice : (points : Points) (m o : List (ℕ × ℕ)) (others : ℕ) → IsDoubled points m o → others < 2 ^ length (discs points m o)
    → choices (components points m m o) (map (component_in points m m o) (discs points m o)) (undotted_at points m m o 0 others)
    ≡ others ∷ []
one-choice points m o others is below =
    let ds = discs points m o in
    ap₂ (λ xs ys. choices xs ys (undotted_at points m m o 0 others)) (components-same points m o is) (named-same points m o is)
    ∙ choices-itself ds ds (undotted_at points m m o 0 others) others (discs-once points m o is) (λ k has. has)
    (λ k has not. absurd (not has)) (λ i within. ap (λ l. 1 - l) (load-dot points m o others i is within)) below

term-scaled : (points : Points) (m o : List (ℕ × ℕ)) (number : ℕ) (other : Term) → IsDoubled points m o
    → other.dots < 2 ^ length (discs points m o)
    → composed_terms points m m o (dotted_term 0 number) other ≡ dotted_term other.dots (number * other.coefficient) ∷ []
term-scaled points m o number other is below =
    ap₂ (λ c sets. map (dotted_times (number * other.coefficient * c)) sets) (one-factor points m o other.dots is)
    (one-choice points m o other.dots is below)
    ∙ ap (λ c. dotted_term other.dots c ∷ []) (one_time (number * other.coefficient))
  where
    one_time : (x : ℕ) → x * 1 ≡ x
    one_time x = omega arith

pub multiples : (points : Points) (m o : List (ℕ × ℕ)) (number : ℕ) (second : List Term) → IsDoubled points m o
    → AreDotted points m o second → listed points m m o (dotted_term 0 number ∷ []) second ≡ scaled number second
multiples points m o number second is dotted = append-nil (flat_map compose second) ∙ all second dotted
  where
    compose : Term → List Term
    compose = composed_terms points m m o (dotted_term 0 number)

    all : (terms : List Term) → AreDotted points m o terms → flat_map compose terms ≡ scaled number terms
    all [] dots = refl
    all (term ∷ terms) dots =
        ap₂ (λ (xs ys : List Term). xs ++ ys) (term-scaled points m o number term is dots.0) (all terms dots.1)

-- so a way whose first map is a number times the identity is its second map, times the number

number-below : (p number : ℕ) (terms : List Term) → AreReduced p terms → number_in terms ≡ Some number → number < p
number-below p number terms reduced told =
    let single = subst (AreReduced p) (number-told number terms told) reduced in
    omega (arith, single.below 0 (dotted_term 0 (number * 1)) (omega arith))

pub multiple-below : (p number : ℕ) (way : Way) → HasReducedMaps p way → IsMultiple number way → number < p
multiple-below p number way reduced is = number-below p number way.first.now reduced.front is.told

listed-multiple : (number : ℕ) (way : Way) → WayFacts way → IsMultiple number way → listed_along way ≡ scaled number way.second.now
listed-multiple number way facts is =
    let points = points_on way in
    let m = joins_from way in
    let o = joins_to way in
    let over : joins_over way ≡ m = ap (λ ps. joins_of ps way.opened.now) (sym is.same) in
    ap₂ (λ n (first : List Term). listed points m n o first way.second.now) over (number-told number way.first.now is.told)
    ∙ multiples points m o (number * 1) way.second.now
    (record { placed = facts.listed.placed; pairing = facts.listed.pairing; first = facts.listed.first; third = facts.listed.third })
    (subst (λ n. AreDotted points n o way.second.now) over is.dots)
    ∙ ap (λ c. scaled c way.second.now) (one_time number)
  where
    one_time : (x : ℕ) → x * 1 ≡ x
    one_time x = omega arith

pub multiple_taken : (p factor minus number : ℕ) (way : Way) (old new : List Term) → WayFacts way → IsMultiple number way
    → factor ≡ minus * number % p → IsSum p old (scaled factor way.second.now) new → IsSum p old (scaled minus (listed_along way)) new
multiple_taken p factor minus number way old new facts is product sum =
    subst (λ xs. IsSum p old (scaled minus xs) new) (sym (listed-multiple number way facts is))
    (IsSum-alike p old (scaled factor second) (scaled minus (scaled number second)) new sum
    (λ dots.
    let n = coefficient_in second dots in
    ap (λ z. z % p) (coefficient-scaled factor second dots ∙ ap (λ f. f * n) product)
    ∙ same-mul p (minus * number % p) (minus * number) n n (mod-mod (minus * number) p) refl
    ∙ ap (λ z. z % p) (grouped minus number n ∙ ap (λ z. minus * z) (sym (coefficient-scaled number second dots))
    ∙ sym (coefficient-scaled minus (scaled number second) dots)))
    (λ limit below. alone limit second below))
  where
    second : List Term
    second = way.second.now

    grouped : (a b c : ℕ) → a * b * c ≡ a * (b * c)
    grouped a b c = omega arith

    alone : (limit : ℕ) (terms : List Term) → HaveDotsBelow limit (scaled minus (scaled number terms)) → HaveDotsBelow limit (scaled factor terms)
    alone limit [] all = tt
    alone limit (term ∷ terms) all = (all.0, alone limit terms all.1)
