-- Partners that are made of pairs, where each arc is an end of one of them. Each arc is its own partner at first, and a pair
-- makes its two ends partners where both have none. A pair leaves the partners of all other arcs; so an arc keeps its partner
-- where it is the end of no later pair, and the ends of a pair have no partners until it comes, and one another from then on. The
-- pairs here are those of points in one class. Read off the partners again, they are the same, point by point: a point with a
-- greater mate has just one, as it is an end of one pair only, and this is its partner; a point without is the greater end of its
-- pair, and its partner is lesser, so no pair is read off there.
use Rattle.std.proofs.Common.{◌≡◌, ◌≢◌, ℕ, ◌⊎◌, inl, inr, ◌<◌, ◌≤◌, ◌∙◌, List, [], ◌∷◌, ◌++◌, length, map, set, take, refl, sym, subst, ap, ap₂, arith, Bool, true, false, cond, not, ◌&&◌}
use Rattle.std.specs.Prelude.{nat_lt, slice_index}
use Rattle.std.specs.List.{filter, flat_map, fold, range_with_len, sum_by, AllByRecursion, Contains}
use Rattle.std.proofs.lemmas.Bool.{cases_eq, eq-eqb, ne_eqb, lt-ltb}
use Rattle.std.proofs.lemmas.Bool.Decides.{nat_tests}
use Rattle.std.proofs.lemmas.List.{get_or-set_same, get_or-set_other, length-set, take_all}
use Rattle.std.proofs.lemmas.List.FromFn.{length-range_with_len, get_or-range_with_len}
use Rattle.std.proofs.lemmas.List.Sums.{sum_by-cons}
use Rattle.kh_types.proofs.ListSums.{sum_by-flat_map}
use Rattle.kh_types.proofs.Lists.{Contains-filter, Contains-map, Contains-flat_map, Contains-cases, Contains-later}
use Rattle.surface_laws.proofs.Components.{AllByRecursion-at}
use Rattle.added_crossing_laws.specs.Pairings.{IsPairingOf, end_count, ends_in}
use Rattle.added_crossing_laws.specs.Steps.{is_mate, pair_with, pairs_among, pairs_at}
use Rattle.added_crossing_laws.proofs.Members.{All-contained}
use Rattle.added_crossing_laws.proofs.NewPairing.{IsPair, pairs-are}
use Rattle.tangle_maps.specs.declared.pairing.TheConstants.{POINTS}
use Rattle.tangle_maps.specs.Pairings.{IsOpened, joins_of, leads, partnered, with_partner}
use Rattle.crossing_maps.specs.Partners.{can_pair, paired_up}

-- ends

ends-none : (x a b : ℕ) → ends_in x (a, b) ≡ 0 → (x ≢ a) × (x ≢ b)
ends-none x a b is = (λ same. first same, λ same. second same)
  where
    first : x ≡ a → ⊥
    first same = grind (arith, nat_tests)

    second : x ≡ b → ⊥
    second same = grind (arith, nat_tests)

ends-first : (x a b : ℕ) → a ≡ x → 1 ≤ ends_in x (a, b)
ends-first x a b same = grind (arith, nat_tests)

ends-second : (x a b : ℕ) → b ≡ x → 1 ≤ ends_in x (a, b)
ends-second x a b same = grind (arith, nat_tests)

-- a pair leaves the partners of all others

partnered-other : (partners : List ℕ) (a b x : ℕ) → x ≢ a → x ≢ b
    → slice_index (partnered partners a b) x ≡ slice_index partners x
partnered-other partners a b x first second =
    get_or-set_other (set partners a b) b x a 0 second ∙ get_or-set_other partners a x b 0 first

up-other : (partners : List ℕ) (a b x : ℕ) → x ≢ a → x ≢ b
    → slice_index (paired_up partners (a, b)) x ≡ slice_index partners x
up-other partners a b x first second = here (can_pair partners a b)
  where
    here : (b_ok : Bool) → slice_index (cond b_ok (partnered partners a b) partners) x ≡ slice_index partners x
    here true = partnered-other partners a b x first second
    here false = refl

up-length : (partners : List ℕ) (a b : ℕ) → length (paired_up partners (a, b)) ≡ length partners
up-length partners a b = here (can_pair partners a b)
  where
    here : (b_ok : Bool) → length (cond b_ok (partnered partners a b) partners) ≡ length partners
    here true = length-set (set partners a b) b a ∙ length-set partners a b
    here false = refl

pub stays : (partners : List ℕ) (pairs : List (ℕ × ℕ)) (x : ℕ) → end_count pairs x ≡ 0
    → slice_index (fold paired_up partners pairs) x ≡ slice_index partners x
stays partners [] x none = refl
stays partners ((a, b) ∷ pairs) x none =
    let sum = sum_by-cons (ends_in x) (a, b) pairs in
    let apart = ends-none x a b (omega (arith, sum, none)) in
    stays (paired_up partners (a, b)) pairs x (omega (arith, sum, none)) ∙ up-other partners a b x apart.0 apart.1

-- two arcs without partners become partners

can : (partners : List ℕ) (x y : ℕ) → x ≢ y → slice_index partners x ≡ x → slice_index partners y ≡ y
    → can_pair partners x y ≡ true
can partners x y apart first second =
    ap₂ (λ b d. not b && d) (ne_eqb x y apart)
    (ap₂ (λ b d. b && d) (eq-eqb (slice_index partners x) x first) (eq-eqb (slice_index partners y) y second))

-- what is known of two arcs before they become partners
pub record AreAlone (partners : List ℕ) (x y : ℕ) : Type 0 where
  apart : x ≢ y
  first : slice_index partners x ≡ x
  second : slice_index partners y ≡ y
  first_below : x < length partners
  second_below : y < length partners

-- and afterwards
pub record ArePartnersIn (partners : List ℕ) (x y : ℕ) : Type 0 where
  pub first : slice_index partners x ≡ y
  pub second : slice_index partners y ≡ x

become : (partners : List ℕ) (x y : ℕ) → AreAlone partners x y → ArePartnersIn (paired_up partners (x, y)) x y
become partners x y alone =
    subst (λ b. ArePartnersIn (cond b (partnered partners x y) partners) x y)
    (sym (can partners x y alone.apart alone.first alone.second))
    (record {
      first = get_or-set_other (set partners x y) y x x 0 alone.apart ∙ get_or-set_same partners x y 0 alone.first_below;
      second = get_or-set_same (set partners x y) y x 0 (omega (arith, alone.second_below, length-set partners x y));
    })

-- a pair that is there
there : (pairs : List (ℕ × ℕ)) (x y : ℕ) → Contains pairs (x, y) → (1 ≤ end_count pairs x) × (1 ≤ end_count pairs y)
there [] x y (k, below, is) = absurd (omega (arith, below))
there ((a, b) ∷ pairs) x y has =
    let first = sum_by-cons (ends_in x) (a, b) pairs in
    let second = sum_by-cons (ends_in y) (a, b) pairs in
    elim (Contains-cases (a, b) (x, y) pairs has) [
      | inl same ↦ (
        omega (arith, first, ends-first x a b (ap (λ (p : ℕ × ℕ). p.0) same)),
        omega (arith, second, ends-second y a b (ap (λ (p : ℕ × ℕ). p.1) same)),
      )
      | inr later ↦
          let both = there pairs x y later in
          (omega (arith, first, both.0), omega (arith, second, both.1))
    ]

pub own : (partners : List ℕ) (pairs : List (ℕ × ℕ)) (x y : ℕ) → AreAlone partners x y → Contains pairs (x, y)
    → end_count pairs x ≡ 1 → end_count pairs y ≡ 1 → ArePartnersIn (fold paired_up partners pairs) x y
own partners [] x y alone (k, below, is) first second = absurd (omega (arith, below))
own partners ((a, b) ∷ pairs) x y alone has first second =
    let x_sum = sum_by-cons (ends_in x) (a, b) pairs in
    let y_sum = sum_by-cons (ends_in y) (a, b) pairs in
    elim (Contains-cases (a, b) (x, y) pairs has) [
      | inl same ↦
          let x_one = ends-first x a b (ap (λ (p : ℕ × ℕ). p.0) same) in
          let y_one = ends-second y a b (ap (λ (p : ℕ × ℕ). p.1) same) in
          let now = subst (λ p. ArePartnersIn (paired_up partners p) x y) (sym same) (become partners x y alone) in
          record {
            first = stays (paired_up partners (a, b)) pairs x (omega (arith, x_sum, x_one, first)) ∙ now.first;
            second = stays (paired_up partners (a, b)) pairs y (omega (arith, y_sum, y_one, second)) ∙ now.second;
          }
      | inr later ↦
          let both = there pairs x y later in
          let x_apart = ends-none x a b (omega (arith, x_sum, first, both.0)) in
          let y_apart = ends-none y a b (omega (arith, y_sum, second, both.1)) in
          let size = up-length partners a b in
          own (paired_up partners (a, b)) pairs x y
          (record {
            apart = alone.apart;
            first = up-other partners a b x x_apart.0 x_apart.1 ∙ alone.first;
            second = up-other partners a b y y_apart.0 y_apart.1 ∙ alone.second;
            first_below = omega (arith, size, alone.first_below);
            second_below = omega (arith, size, alone.second_below);
          })
          later (omega (arith, x_sum, first, both.0)) (omega (arith, y_sum, second, both.1))
    ]

-- an arc that is an end has a pair

pub record HasEnd (pairs : List (ℕ × ℕ)) (x : ℕ) : Type 0 where
  pub pair : ℕ × ℕ
  pub has : Contains pairs pair
  pub end : (x ≡ pair.0) ⊎ (x ≡ pair.1)

no-ends : (x a b : ℕ) → x ≢ a → x ≢ b → ends_in x (a, b) ≡ 0
no-ends x a b first second = grind (arith, nat_tests)

pub ended : (pairs : List (ℕ × ℕ)) (x : ℕ) → end_count pairs x ≡ 1 → HasEnd pairs x
ended [] x one = absurd (omega (arith, one))
ended ((a, b) ∷ pairs) x one = elim (cases_eq x a) [
  | inl same ↦ record { pair = (a, b); has = (0, omega arith, refl); end = inl same }
  | inr first ↦ elim (cases_eq x b) [
    | inl same ↦ record { pair = (a, b); has = (0, omega arith, refl); end = inr same }
    | inr second ↦
        let later = ended pairs x (omega (arith, sum_by-cons (ends_in x) (a, b) pairs, no-ends x a b first second, one)) in
        record { pair = later.pair; has = Contains-later (a, b) later.pair pairs later.has; end = later.end }
  ]
]

-- the pairs of one class

sum-part : {X : Type 0} (f : X → ℕ) (xs : List X) (x : X) → Contains xs x → f x ≤ sum_by f xs
sum-part f [] x (k, below, is) = absurd (omega (arith, below))
sum-part f (y ∷ xs) x has = elim (Contains-cases y x xs has) [
  | inl same ↦ omega (arith, sum_by-cons f y xs, ap f same)
  | inr later ↦ omega (arith, sum_by-cons f y xs, sum-part f xs x later)
]

two-mates : (x y z : ℕ) (mates : List ℕ) → 2 ≤ end_count (map (pair_with x) (y ∷ z ∷ mates)) x
two-mates x y z mates =
    let f : ℕ × ℕ → ℕ = ends_in x in
    let rest = map (pair_with x) mates in
    omega (
      arith,
      sum_by-cons f (x, y) ((x, z) ∷ rest),
      sum_by-cons f (x, z) rest,
      ends-first x x y refl,
      ends-first x x z refl,
    )

row : (points classes : List ℕ) (x : ℕ) → Contains points x
    → end_count (pairs_at points classes x) x ≤ end_count (pairs_among points classes) x
row points classes x has =
    omega (
      arith,
      sum_by-flat_map (ends_in x) (pairs_at points classes) points,
      sum-part (λ y. sum_by (ends_in x) (pairs_at points classes y)) points x has,
    )

range-alone : (x y : ℕ) → x < POINTS → y < POINTS → x ≢ y → AreAlone (range_with_len 0 POINTS) x y
range-alone x y x_below y_below apart = any POINTS x_below y_below
  where
    at : (n x : ℕ) → x < n → slice_index (range_with_len 0 n) x ≡ x
    at n x below = get_or-range_with_len 0 n x 0 below ∙ omega arith

    any : (n : ℕ) → x < n → y < n → AreAlone (range_with_len 0 n) x y
    any n first second = record {
      apart = apart;
      first = at n x first;
      second = at n y second;
      first_below = omega (arith, first, length-range_with_len 0 n);
      second_below = omega (arith, second, length-range_with_len 0 n);
    }

more-false : (x y : ℕ) → y < x → nat_lt x y ≡ false
more-false x y is = grind (arith, nat_tests)

nothing : (x : ℕ) → Contains [] x → ⊥
nothing x (k, below, is) = omega (arith, below)

-- partners that are made of the pairs of classes
abbrev pub made_of : List ℕ → List ℕ → List ℕ
made_of points classes = fold paired_up (range_with_len 0 POINTS) (pairs_among points classes)

pub made-own : (points classes : List ℕ) (a b : ℕ) → IsOpened points → IsPairingOf points (pairs_among points classes)
    → Contains (pairs_among points classes) (a, b) → IsPair points classes (a, b) → ArePartnersIn (made_of points classes) a b
made-own points classes a b opened paired has is =
    own (range_with_len 0 POINTS) (pairs_among points classes) a b
    (range-alone a b (AllByRecursion-at (λ z. z < POINTS) points a opened is.first)
    (AllByRecursion-at (λ z. z < POINTS) points b opened is.second) (λ same. absurd (omega (arith, same, is.rises))))
    has (paired.once a is.first) (paired.once b is.second)

here : (points classes : List ℕ) (x : ℕ) → IsOpened points → IsPairingOf points (pairs_among points classes) → Contains points x
    → pairs_at points classes x
    ≡ cond (leads (made_of points classes) x) (with_partner (made_of points classes) x ∷ []) []
here points classes x opened paired has =
    elim (filter (is_mate classes x) points)
    as (λ mates. filter (is_mate classes x) points ≡ mates
    → map (pair_with x) mates ≡ cond (leads (made_of points classes) x) (with_partner (made_of points classes) x ∷ []) []) [
      | [] ↦ none
      | (y ∷ mates) ↦ some y mates
    ] refl
  where
    none : filter (is_mate classes x) points ≡ []
        → [] ≡ cond (leads (made_of points classes) x) (with_partner (made_of points classes) x ∷ []) []
    none empty =
        let pairs = pairs_among points classes in
        let found = ended pairs x (paired.once x has) in
        let is : IsPair points classes found.pair = AllByRecursion-at (IsPair points classes) pairs found.pair (pairs-are points classes) found.has in
        elim found.end [
          | inl first ↦
              let mate : Contains (filter (is_mate classes x) points) found.pair.1 =
              Contains-filter (is_mate classes x) points found.pair.1
              (ap₂ (λ b d. b && d) (lt-ltb x found.pair.1 (omega (arith, first, is.rises)))
              (eq-eqb (slice_index classes x) (slice_index classes found.pair.1) (ap (slice_index classes) first ∙ is.same)))
              is.second in
              let nowhere : Contains [] found.pair.1 = subst (λ ys. Contains ys found.pair.1) empty mate in
              absurd (nothing found.pair.1 nowhere)
          | inr second ↦
              let partners = made-own points classes found.pair.0 found.pair.1 opened paired found.has is in
              let partner : slice_index (made_of points classes) x ≡ found.pair.0 =
              ap (slice_index (made_of points classes)) second ∙ partners.second in
              sym (ap (λ b. cond b (with_partner (made_of points classes) x ∷ []) [])
              (more-false x (slice_index (made_of points classes) x) (omega (arith, partner, second, is.rises))))
        ]

    some : (y : ℕ) (mates : List ℕ) → filter (is_mate classes x) points ≡ y ∷ mates
        → map (pair_with x) (y ∷ mates) ≡ cond (leads (made_of points classes) x) (with_partner (made_of points classes) x ∷ []) []
    some y [] are =
        let pairs = pairs_among points classes in
        let mate : Contains (filter (is_mate classes x) points) y = subst (λ ys. Contains ys y) (sym are) (0, omega arith, refl) in
        let pair_has : Contains pairs (x, y) =
        Contains-flat_map (pairs_at points classes) points x (x, y) has
        (Contains-map (pair_with x) (filter (is_mate classes x) points) y mate) in
        let is : IsPair points classes (x, y) = AllByRecursion-at (IsPair points classes) pairs (x, y) (pairs-are points classes) pair_has in
        let partner = (made-own points classes x y opened paired pair_has is).first in
        ap (λ (z : ℕ). (x, z) ∷ []) (sym partner)
        ∙ sym (ap (λ b. cond b (with_partner (made_of points classes) x ∷ []) [])
        (lt-ltb x (slice_index (made_of points classes) x) (omega (arith, partner, is.rises))))
    some y (z ∷ mates) are =
        absurd (omega (
          arith,
          two-mates x y z mates,
          ap (λ ys. end_count (map (pair_with x) ys) x) are,
          row points classes x has,
          paired.once x has,
        ))

gathered : {Y : Type 0} (g : ℕ → List Y) (w : ℕ → Y) (l : ℕ → Bool) (xs : List ℕ) → AllByRecursion (λ x. g x ≡ cond (l x) (w x ∷ []) []) xs
    → map w (filter l xs) ≡ flat_map g xs
gathered g w l [] all = refl
gathered {Y} g w l (x ∷ xs) all =
    each (l x) (gathered g w l xs all.1) ∙ ap (λ (ys : List Y). ys ++ flat_map g xs) (sym all.0)
  where
    each : (b : Bool) → map w (filter l xs) ≡ flat_map g xs
        → map w (cond b (x ∷ filter l xs) (filter l xs)) ≡ cond b (w x ∷ []) [] ++ flat_map g xs
    each true later = ap (λ (ys : List Y). w x ∷ ys) later
    each false later = later

pub made-pairs : (points classes : List ℕ) → IsOpened points → IsPairingOf points (pairs_among points classes)
    → joins_of (made_of points classes) points ≡ pairs_among points classes
made-pairs points classes opened paired =
    gathered (pairs_at points classes) (with_partner (made_of points classes)) (leads (made_of points classes)) points
    (All-contained (λ x. pairs_at points classes x
    ≡ cond (leads (made_of points classes) x) (with_partner (made_of points classes) x ∷ []) []) points
    (λ x has. here points classes x opened paired has))

pub pairs-of-made : (partners points classes : List ℕ) → partners ≡ made_of points classes → IsOpened points
    → IsPairingOf points (pairs_among points classes) → joins_of partners points ≡ pairs_among points classes
pairs-of-made partners points classes made opened paired =
    ap (λ ps. joins_of ps points) made ∙ made-pairs points classes opened paired

-- all points are done
pub all-made : (partners points classes : List ℕ) (k : ℕ)
    → partners ≡ fold paired_up (range_with_len 0 POINTS) (flat_map (pairs_at points classes) (take k points)) → length points ≤ k
    → partners ≡ made_of points classes
all-made partners points classes k made all =
    made ∙ ap (λ xs. fold paired_up (range_with_len 0 POINTS) (flat_map (pairs_at points classes) xs)) (take_all k points all)
