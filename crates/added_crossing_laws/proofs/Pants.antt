-- The surface of one pairing in which two circles become one: cylinders, and a pair of pants.
--
-- In the Euler count the disc of each pair and the half strips at its two ends cancel (`sum-paired`). What is left of a component is its
-- circles and the saddle's strip. A circle that stays has two faces, before and after: a cylinder (`factor-other`). The component of the
-- change has three faces and two half strips more: a pair of pants (`factor-kept`). No other number is a component (`component-cases`).
use Rattle.std.proofs.Common.{◌≡◌, ◌≢◌, ℕ, inl, inr, ◌⊎◌, ◌+◌, ◌*◌, ◌/◌, ◌%◌, ◌<◌, ◌∙◌, List, [], ◌∷◌, ◌++◌, map, refl, sym, ap, ap₂, subst, arith, Bool, true, false, not, cond, ◌&&◌}
use Rattle.std.specs.Prelude.{nat_eq, slice_index}
use Rattle.std.specs.List.{filter, sum_by, range_with_len, Contains}
use Rattle.std.proofs.lemmas.Bool.{cases_Bool, cases_eq, eq-eqb, eqb-true}
use Rattle.std.proofs.lemmas.Bool.Decides.{nat_tests}
use Rattle.std.proofs.lemmas.List.Sums.{sum_by-cons, sum_by-append}
use Rattle.kh_types.specs.Classes.{classes_of, is_least, Respects}
use Rattle.kh_types.specs.Edges.{is_other}
use Rattle.kh_types.proofs.FilteredRanges.{filter-filter}
use Rattle.kh_types.proofs.Lists.{Contains-filter, AllByRecursion-weaker}
use Rattle.kh_types.proofs.ListSums.{sum_by-map, sum_by-plus, sum_by-times, sum_by-turned, sum_by-zeros, sum_by-alike, sum_by-on}
use Rattle.surface_laws.specs.Surfaces.{Surface, component_of, is_component, faces_on, dots_on, hollows_on, lowers_on, HasGenus, weight, factor}
use Rattle.surface_laws.proofs.Components.{list_any-contained, list_any-some}
use Rattle.surface_laws.proofs.Factors.{factor-at, factor-none}
use Rattle.surface_laws.proofs.JoinedCounts.{amount_at, sum_at}
use Rattle.surface_laws.proofs.OneCut.{place_of_face, dots_of_face, hollows_of_face, one_face}
use Rattle.added_crossing_laws.specs.Pairings.{ends_in, IsPairingOf, face_with, marked_by}
use Rattle.added_crossing_laws.specs.Steps.{those}
use Rattle.added_crossing_laws.specs.Codes.{disc_of}
use Rattle.added_crossing_laws.proofs.Members.{filter-kept, those-are, All-contained}
use Rattle.added_crossing_laws.proofs.Classes.{class_in}
use Rattle.added_crossing_laws.proofs.Pairs.{only-one}
use Rattle.kh_types.proofs.Tests.{nat_eq-turned, other-differs, other-passes}

-- a sum over paired points is one over pairs
one_and_one : (s : ℕ) (p q : Bool) → s * (cond p 1 0 + cond q 1 0) ≡ cond p s 0 + cond q s 0
one_and_one s true true = omega arith
one_and_one s true false = omega arith
one_and_one s false true = omega arith
one_and_one s false false = omega arith

ends-of : (f : ℕ → ℕ) (x : ℕ) (pair : ℕ × ℕ)
    → f x * ends_in x pair ≡ cond (nat_eq x pair.0) (f x) 0 + cond (nat_eq x pair.1) (f x) 0
ends-of f x pair =
    one_and_one (f x) (nat_eq pair.0 x) (nat_eq pair.1 x)
    ∙ ap₂ (λ b d. cond b (f x) 0 + cond d (f x) 0) (nat_eq-turned pair.0 x) (nat_eq-turned pair.1 x)

pub sum-paired : (count : ℕ) (test : ℕ → Bool) (f : ℕ → ℕ) (pairs : List (ℕ × ℕ)) → IsPairingOf (those count test) pairs
    → sum_by f (those count test) ≡ sum_by (λ pair. f pair.0 + f pair.1) pairs
sum-paired count test f pairs paired =
    let points = those count test in
    let end : ℕ → ℕ × ℕ → ℕ = λ x pair. cond (nat_eq x pair.0) (f x) 0 + cond (nat_eq x pair.1) (f x) 0 in
    sum_by-on f (λ x. sum_by (end x) pairs) points
    (All-contained (λ x. f x ≡ sum_by (end x) pairs) points
    (λ x has.
    sym (sym (sum_by-alike (λ pair. f x * ends_in x pair) (end x) (ends-of f x) pairs) ∙ sum_by-times (ends_in x) (f x) pairs
    ∙ ap (λ d. f x * d) (paired.once x has) ∙ omega arith)))
    ∙ sum_by-turned end points pairs
    ∙ sum_by-on (λ pair. sum_by (λ x. end x pair) points) (λ pair. f pair.0 + f pair.1) pairs
    (AllByRecursion-weaker (λ pair. Contains points pair.0 × Contains points pair.1)
    (λ pair. sum_by (λ x. end x pair) points ≡ f pair.0 + f pair.1) pairs
    (λ pair has.
    sum_by-plus (λ x. cond (nat_eq x pair.0) (f x) 0) (λ x. cond (nat_eq x pair.1) (f x) 0) points
    ∙ ap₂ (λ s t. s + t) (only-one count test f pair.0 (those-are count test pair.0 has.0))
    (only-one count test f pair.1 (those-are count test pair.1 has.1)))
    paired.among)

-- of a sum over names only one counts
only-one-name : (count : ℕ) (test q : ℕ → Bool) (g : ℕ → ℕ) (x : ℕ) → Contains (filter q (those count test)) x
    → sum_by (λ y. cond (nat_eq y x) (g y) 0) (filter q (those count test)) ≡ g x
only-one-name count test q g x has =
    let kept = filter-kept q (those count test) x has in
    let is = those-are count test x kept.has in
    ap (λ (xs : List ℕ). sum_by (λ y. cond (nat_eq y x) (g y) 0) xs) (filter-filter test q (range_with_len 1 count))
    ∙ only-one count (λ y. test y && q y) g x
    record { above = is.above; below = is.below; passes = ap₂ (λ a b. a && b) is.passes kept.passes }

-- the surface
abbrev pub names : ℕ → (ℕ → Bool) → List ℕ → List ℕ
names count alive classes = filter (is_least classes) (those count alive)

abbrev pub pants_of : ℕ → (ℕ → Bool) → (ℕ → Bool) → List (ℕ × ℕ) → List (ℕ × ℕ) → List ℕ → ℕ → (ℕ → ℕ) → (ℕ → ℕ) → Surface
pants_of count alive opened m all fine a first second = record {
  size = count + 1;
  places = those count alive;
  joins = all;
  faces = map disc_of m
      ++ (marked_by first (names count alive fine) ++ marked_by second (names count alive (classes_of (count + 1) all)));
  lowers = a ∷ a ∷ those count opened;
  raises = [];
}

pub record ArePants (count : ℕ) (alive opened : ℕ → Bool) (m all : List (ℕ × ℕ)) (fine : List ℕ) (a kept gone : ℕ) : Type 0 where
  pub paired : IsPairingOf (those count opened) m
  pub pairs : Respects (class_in (count + 1) all) m
  pub order : kept < gone
  pub there : class_in (count + 1) all a ≡ kept
  pub kept_in : Contains (names count alive fine) kept
  pub gone_in : Contains (names count alive fine) gone
  pub coarse : names count alive (classes_of (count + 1) all) ≡ filter (is_other gone) (names count alive fine)
  pub one : (x : ℕ) → Contains (those count alive) x → slice_index fine x ≡ gone → class_in (count + 1) all x ≡ kept
  pub others : (x : ℕ) → Contains (those count alive) x → slice_index fine x ≢ gone
      → class_in (count + 1) all x ≡ slice_index fine x
  pub classes : (x : ℕ) → Contains (those count alive) x
      → Contains (names count alive (classes_of (count + 1) all)) (class_in (count + 1) all x)

-- a name of the one is one of the other, and is not gone
pub record IsCoarse (count : ℕ) (alive : ℕ → Bool) (all : List (ℕ × ℕ)) (fine : List ℕ) (gone k : ℕ) : Type 0 where
  pub name : Contains (names count alive fine) k
  pub stays : k ≢ gone
  pub place : Contains (those count alive) k
  pub own : class_in (count + 1) all k ≡ k

pub coarse-is : (count : ℕ) (alive opened : ℕ → Bool) (m all : List (ℕ × ℕ)) (fine : List ℕ) (a kept gone k : ℕ)
    → ArePants count alive opened m all fine a kept gone → Contains (names count alive (classes_of (count + 1) all)) k
    → IsCoarse count alive all fine gone k
coarse-is count alive opened m all fine a kept gone k pants has =
    let coarse = classes_of (count + 1) all in
    let here = filter-kept (is_least coarse) (those count alive) k has in
    let later = filter-kept (is_other gone) (names count alive fine) k
    (subst (λ (xs : List ℕ). Contains xs k) pants.coarse has) in
    record {
      name = later.has;
      stays = other-differs gone k later.passes;
      place = here.has;
      own = eqb-true (class_in (count + 1) all k) k here.passes;
    }

pub is-coarse : (count : ℕ) (alive opened : ℕ → Bool) (m all : List (ℕ × ℕ)) (fine : List ℕ) (a kept gone k : ℕ)
    → ArePants count alive opened m all fine a kept gone → Contains (names count alive fine) k → k ≢ gone
    → Contains (names count alive (classes_of (count + 1) all)) k
is-coarse count alive opened m all fine a kept gone k pants has other =
    subst (λ (xs : List ℕ). Contains xs k) (sym pants.coarse)
    (Contains-filter (is_other gone) (names count alive fine) k (other-passes gone k other) has)

-- the sums over the faces

fine-kept : (count : ℕ) (alive opened : ℕ → Bool) (m all : List (ℕ × ℕ)) (fine : List ℕ) (a kept gone : ℕ) (w : ℕ → ℕ)
    → ArePants count alive opened m all fine a kept gone
    → sum_by (λ c. cond (nat_eq (class_in (count + 1) all c) kept) (w c) 0) (names count alive fine) ≡ w kept + w gone
fine-kept count alive opened m all fine a kept gone w pants =
    let xs = names count alive fine in
    let class = class_in (count + 1) all in
    let at_kept : ℕ → ℕ = λ c. cond (nat_eq c kept) (w c) 0 in
    let at_gone : ℕ → ℕ = λ c. cond (nat_eq c gone) (w c) 0 in
    sum_by-on (λ c. cond (nat_eq (class c) kept) (w c) 0) (λ c. at_kept c + at_gone c) xs
    (All-contained (λ c. cond (nat_eq (class c) kept) (w c) 0 ≡ at_kept c + at_gone c) xs
    (λ c has.
    let is = filter-kept (is_least fine) (those count alive) c has in
    let own : slice_index fine c ≡ c = eqb-true (slice_index fine c) c is.passes in
    elim (cases_eq c gone) [
      | inl same ↦ at_the_gone (class c) c kept gone (w c) pants.order same (pants.one c is.has (own ∙ same))
      | inr other ↦ elsewhere (class c) c kept gone (w c) other (pants.others c is.has (λ same. other (sym own ∙ same)) ∙ own)
    ]))
    ∙ sum_by-plus at_kept at_gone xs
    ∙ ap₂ (λ s t. s + t) (only-one-name count alive (is_least fine) w kept pants.kept_in)
    (only-one-name count alive (is_least fine) w gone pants.gone_in)
  where
    at_the_gone : (class c kept gone s : ℕ) → kept < gone → c ≡ gone → class ≡ kept
        → cond (nat_eq class kept) s 0 ≡ cond (nat_eq c kept) s 0 + cond (nat_eq c gone) s 0
    at_the_gone class c kept gone s order same is = grind (arith, nat_tests)

    elsewhere : (class c kept gone s : ℕ) → c ≢ gone → class ≡ c
        → cond (nat_eq class kept) s 0 ≡ cond (nat_eq c kept) s 0 + cond (nat_eq c gone) s 0
    elsewhere class c kept gone s other is = grind (arith, nat_tests)

fine-other : (count : ℕ) (alive opened : ℕ → Bool) (m all : List (ℕ × ℕ)) (fine : List ℕ) (a kept gone k : ℕ) (w : ℕ → ℕ)
    → ArePants count alive opened m all fine a kept gone → Contains (names count alive fine) k → k ≢ gone → k ≢ kept
    → sum_by (λ c. cond (nat_eq (class_in (count + 1) all c) k) (w c) 0) (names count alive fine) ≡ w k
fine-other count alive opened m all fine a kept gone k w pants k_has not_gone not_kept =
    let xs = names count alive fine in
    let class = class_in (count + 1) all in
    sum_by-on (λ c. cond (nat_eq (class c) k) (w c) 0) (λ c. cond (nat_eq c k) (w c) 0) xs
    (All-contained (λ c. cond (nat_eq (class c) k) (w c) 0 ≡ cond (nat_eq c k) (w c) 0) xs
    (λ c has.
    let is = filter-kept (is_least fine) (those count alive) c has in
    let own : slice_index fine c ≡ c = eqb-true (slice_index fine c) c is.passes in
    elim (cases_eq c gone) [
      | inl same ↦ at_the_gone (class c) c k kept gone (w c) not_gone not_kept same (pants.one c is.has (own ∙ same))
      | inr other ↦
          ap (λ (d : ℕ). cond (nat_eq d k) (w c) 0) (pants.others c is.has (λ same. other (sym own ∙ same)) ∙ own)
    ]))
    ∙ only-one-name count alive (is_least fine) w k k_has
  where
    at_the_gone : (class c k kept gone s : ℕ) → k ≢ gone → k ≢ kept → c ≡ gone → class ≡ kept
        → cond (nat_eq class k) s 0 ≡ cond (nat_eq c k) s 0
    at_the_gone class c k kept gone s not_gone not_kept same is = grind (arith, nat_tests)

coarse-sum : (count : ℕ) (alive : ℕ → Bool) (all : List (ℕ × ℕ)) (k : ℕ) (w : ℕ → ℕ)
    → Contains (names count alive (classes_of (count + 1) all)) k
    → sum_by (λ c. cond (nat_eq (class_in (count + 1) all c) k) (w c) 0) (names count alive (classes_of (count + 1) all)) ≡ w k
coarse-sum count alive all k w k_has =
    let coarse = classes_of (count + 1) all in
    let xs = names count alive coarse in
    sum_by-on (λ c. cond (nat_eq (class_in (count + 1) all c) k) (w c) 0) (λ c. cond (nat_eq c k) (w c) 0) xs
    (All-contained (λ c. cond (nat_eq (class_in (count + 1) all c) k) (w c) 0 ≡ cond (nat_eq c k) (w c) 0) xs
    (λ c has.
    ap (λ (d : ℕ). cond (nat_eq d k) (w c) 0)
    (eqb-true (class_in (count + 1) all c) c (filter-kept (is_least coarse) (those count alive) c has).passes)))
    ∙ only-one-name count alive (is_least coarse) w k k_has

-- the discs of the pairs, and the half strips at their ends
discs_on : ℕ → List (ℕ × ℕ) → List (ℕ × ℕ) → ℕ → ℕ
discs_on n all m k = sum_by (λ pair. cond (nat_eq (class_in n all pair.0) k) 1 0) m

strips-paired : (count : ℕ) (alive opened : ℕ → Bool) (m all : List (ℕ × ℕ)) (fine : List ℕ) (a kept gone k : ℕ)
    → ArePants count alive opened m all fine a kept gone
    → sum_by (λ x. cond (nat_eq (class_in (count + 1) all x) k) 1 0) (those count opened)
    ≡ discs_on (count + 1) all m k + discs_on (count + 1) all m k
unfolding discs_on
strips-paired count alive opened m all fine a kept gone k pants =
    let n = count + 1 in
    let on : ℕ → ℕ = λ x. cond (nat_eq (class_in n all x) k) 1 0 in
    sum-paired count opened on m pants.paired
    ∙ sum_by-on (λ pair. on pair.0 + on pair.1) (λ pair. on pair.0 + on pair.0) m
    (AllByRecursion-weaker (λ pair. class_in n all pair.0 ≡ class_in n all pair.1)
    (λ pair. on pair.0 + on pair.1 ≡ on pair.0 + on pair.0) m
    (λ pair same. ap (λ (c : ℕ). on pair.0 + cond (nat_eq c k) 1 0) (sym same)) pants.pairs)
    ∙ sum_by-plus (λ pair. on pair.0) (λ pair. on pair.0) m

-- the counts on a component
faces-split : (surface : Surface) (k : ℕ) (amount : ℕ × ℕ → ℕ) (m : List (ℕ × ℕ)) (first second : ℕ → ℕ) (xs ys : List ℕ)
    → sum_at surface k place_of_face amount (map disc_of m ++ (marked_by first xs ++ marked_by second ys))
    ≡ sum_by (λ pair. cond (nat_eq (component_of surface pair.0) k) (amount (disc_of pair)) 0) m
    + (sum_by (λ c. cond (nat_eq (component_of surface c) k) (amount (c, first c)) 0) xs
    + sum_by (λ c. cond (nat_eq (component_of surface c) k) (amount (c, second c)) 0) ys)
faces-split surface k amount m first second xs ys =
    let at : ℕ × ℕ → ℕ = amount_at surface k place_of_face amount in
    sum_by-append at (map disc_of m) (marked_by first xs ++ marked_by second ys)
    ∙ ap₂ (λ s t. s + t) (sum_by-map at disc_of m)
    (sum_by-append at (marked_by first xs) (marked_by second ys)
    ∙ ap₂ (λ s t. s + t) (sum_by-map at (face_with first) xs) (sum_by-map at (face_with second) ys))

abbrev zero_either : Bool → ℕ
zero_either b = cond b 0 0

always_zero : (b : Bool) → zero_either b ≡ 0
always_zero true = refl
always_zero false = refl

no-marks : (n k : ℕ) (all m : List (ℕ × ℕ))
    → sum_by (λ pair. zero_either (nat_eq (class_in n all pair.0) k)) m ≡ 0
no-marks n k all m =
    sum_by-zeros (λ pair. zero_either (nat_eq (class_in n all pair.0) k)) m (λ pair. always_zero (nat_eq (class_in n all pair.0) k))

strips-on : (count : ℕ) (alive opened : ℕ → Bool) (m all : List (ℕ × ℕ)) (fine : List ℕ) (a kept gone k : ℕ) (first second : ℕ → ℕ)
    → ArePants count alive opened m all fine a kept gone
    → lowers_on (pants_of count alive opened m all fine a first second) k
    ≡ cond (nat_eq kept k) 1 0 + (cond (nat_eq kept k) 1 0 + (discs_on (count + 1) all m k + discs_on (count + 1) all m k))
strips-on count alive opened m all fine a kept gone k first second pants =
    let on : ℕ → ℕ = λ x. cond (nat_eq (class_in (count + 1) all x) k) 1 0 in
    let there : on a ≡ cond (nat_eq kept k) 1 0 = ap (λ (c : ℕ). cond (nat_eq c k) 1 0) pants.there in
    sum_by-cons on a (a ∷ those count opened)
    ∙ ap₂ (λ s t. s + t) there
    (sum_by-cons on a (those count opened)
    ∙ ap₂ (λ s t. s + t) there (strips-paired count alive opened m all fine a kept gone k pants))

component-is : (count : ℕ) (alive opened : ℕ → Bool) (m all : List (ℕ × ℕ)) (fine : List ℕ) (a gone k : ℕ) (first second : ℕ → ℕ)
    → IsCoarse count alive all fine gone k → is_component (pants_of count alive opened m all fine a first second) k ≡ true
component-is count alive opened m all fine a gone k first second is =
    list_any-contained (λ x. nat_eq (class_in (count + 1) all x) k) (those count alive) k is.place
    (eq-eqb (class_in (count + 1) all k) k is.own)

-- the factors
pub factor-other : (h minus : ℕ) (count : ℕ) (alive opened : ℕ → Bool) (m all : List (ℕ × ℕ)) (fine : List ℕ) (a kept gone k : ℕ) (first second : ℕ → ℕ)
    → ArePants count alive opened m all fine a kept gone → Contains (names count alive (classes_of (count + 1) all)) k → k ≢ kept
    → factor h minus (pants_of count alive opened m all fine a first second) k
    ≡ weight h minus 0 (first k % 2 + second k % 2) (first k / 2 + second k / 2)
unfolding discs_on
factor-other h minus count alive opened m all fine a kept gone k first second pants has other =
    let surface = pants_of count alive opened m all fine a first second in
    let is = coarse-is count alive opened m all fine a kept gone k pants has in
    let xs = names count alive fine in
    let ys = names count alive (classes_of (count + 1) all) in
    let discs = discs_on (count + 1) all m k in
    let face_count : faces_on surface k ≡ discs + (1 + 1) =
    faces-split surface k one_face m first second xs ys
    ∙ ap (λ s. discs + s)
    (ap₂ (λ s t. s + t) (fine-other count alive opened m all fine a kept gone k (λ c. 1) pants is.name is.stays other)
    (coarse-sum count alive all k (λ c. 1) has)) in
    let dot_count : dots_on surface k ≡ 0 + (first k % 2 + second k % 2) =
    faces-split surface k dots_of_face m first second xs ys
    ∙ ap₂ (λ s t. s + t) (no-marks (count + 1) k all m)
    (ap₂ (λ s t. s + t)
    (fine-other count alive opened m all fine a kept gone k (λ c. first c % 2) pants is.name is.stays other)
    (coarse-sum count alive all k (λ c. second c % 2) has)) in
    let hollow_count : hollows_on surface k ≡ 0 + (first k / 2 + second k / 2) =
    faces-split surface k hollows_of_face m first second xs ys
    ∙ ap₂ (λ s t. s + t) (no-marks (count + 1) k all m)
    (ap₂ (λ s t. s + t)
    (fine-other count alive opened m all fine a kept gone k (λ c. first c / 2) pants is.name is.stays other)
    (coarse-sum count alive all k (λ c. second c / 2) has)) in
    let strips = strips-on count alive opened m all fine a kept gone k first second pants in
    let has_genus : HasGenus surface k 0 =
    closed (faces_on surface k) (lowers_on surface k) discs kept k face_count strips (λ same. other (sym same)) in
    factor-at h minus surface k 0 (component-is count alive opened m all fine a gone k first second is) has_genus
    ∙ ap₂ (λ d o. weight h minus 0 d o) (dot_count ∙ zero_plus (first k % 2 + second k % 2))
    (hollow_count ∙ zero_plus (first k / 2 + second k / 2))
  where
    zero_plus : (x : ℕ) → 0 + x ≡ x
    zero_plus x = omega arith

    closed : (faces lowers discs kept k : ℕ) → faces ≡ discs + (1 + 1)
        → lowers ≡ cond (nat_eq kept k) 1 0 + (cond (nat_eq kept k) 1 0 + (discs + discs)) → kept ≢ k
        → 2 * faces + 0 + 4 * 0 ≡ lowers + 4
    closed faces lowers discs kept k is_faces is_lowers other = grind (arith, nat_tests)

pub factor-kept : (h minus : ℕ) (count : ℕ) (alive opened : ℕ → Bool) (m all : List (ℕ × ℕ)) (fine : List ℕ) (a kept gone : ℕ) (first second : ℕ → ℕ)
    → ArePants count alive opened m all fine a kept gone → Contains (names count alive (classes_of (count + 1) all)) kept
    → factor h minus (pants_of count alive opened m all fine a first second) kept
    ≡ weight h minus 0 ((first kept % 2 + first gone % 2) + second kept % 2) ((first kept / 2 + first gone / 2) + second kept / 2)
unfolding discs_on
factor-kept h minus count alive opened m all fine a kept gone first second pants has =
    let surface = pants_of count alive opened m all fine a first second in
    let is = coarse-is count alive opened m all fine a kept gone kept pants has in
    let xs = names count alive fine in
    let ys = names count alive (classes_of (count + 1) all) in
    let discs = discs_on (count + 1) all m kept in
    let face_count : faces_on surface kept ≡ discs + ((1 + 1) + 1) =
    faces-split surface kept one_face m first second xs ys
    ∙ ap (λ s. discs + s)
    (ap₂ (λ s t. s + t) (fine-kept count alive opened m all fine a kept gone (λ c. 1) pants)
    (coarse-sum count alive all kept (λ c. 1) has)) in
    let dot_count : dots_on surface kept ≡ 0 + ((first kept % 2 + first gone % 2) + second kept % 2) =
    faces-split surface kept dots_of_face m first second xs ys
    ∙ ap₂ (λ s t. s + t) (no-marks (count + 1) kept all m)
    (ap₂ (λ s t. s + t) (fine-kept count alive opened m all fine a kept gone (λ c. first c % 2) pants)
    (coarse-sum count alive all kept (λ c. second c % 2) has)) in
    let hollow_count : hollows_on surface kept ≡ 0 + ((first kept / 2 + first gone / 2) + second kept / 2) =
    faces-split surface kept hollows_of_face m first second xs ys
    ∙ ap₂ (λ s t. s + t) (no-marks (count + 1) kept all m)
    (ap₂ (λ s t. s + t) (fine-kept count alive opened m all fine a kept gone (λ c. first c / 2) pants)
    (coarse-sum count alive all kept (λ c. second c / 2) has)) in
    let strips = strips-on count alive opened m all fine a kept gone kept first second pants in
    let has_genus : HasGenus surface kept 0 =
    closed (faces_on surface kept) (lowers_on surface kept) discs kept face_count strips in
    factor-at h minus surface kept 0 (component-is count alive opened m all fine a gone kept first second is) has_genus
    ∙ ap₂ (λ d o. weight h minus 0 d o) (dot_count ∙ zero_plus ((first kept % 2 + first gone % 2) + second kept % 2))
    (hollow_count ∙ zero_plus ((first kept / 2 + first gone / 2) + second kept / 2))
  where
    zero_plus : (x : ℕ) → 0 + x ≡ x
    zero_plus x = omega arith

    closed : (faces lowers discs kept : ℕ) → faces ≡ discs + ((1 + 1) + 1)
        → lowers ≡ cond (nat_eq kept kept) 1 0 + (cond (nat_eq kept kept) 1 0 + (discs + discs))
        → 2 * faces + 0 + 4 * 0 ≡ lowers + 4
    closed faces lowers discs kept is_faces is_lowers = grind (arith, nat_tests)

-- any other number is no component
pub component-cases : (h minus : ℕ) (count : ℕ) (alive opened : ℕ → Bool) (m all : List (ℕ × ℕ)) (fine : List ℕ) (a kept gone k : ℕ)
    (first second : ℕ → ℕ)
    → ArePants count alive opened m all fine a kept gone
    → Contains (names count alive (classes_of (count + 1) all)) k
    ⊎ (factor h minus (pants_of count alive opened m all fine a first second) k ≡ 1)
component-cases h minus count alive opened m all fine a kept gone k first second pants =
    let surface = pants_of count alive opened m all fine a first second in
    elim (cases_Bool (is_component surface k)) [
      | inl is ↦
          let found = list_any-some (λ x. nat_eq (class_in (count + 1) all x) k) (those count alive) is in
          inl (subst (λ (c : ℕ). Contains (names count alive (classes_of (count + 1) all)) c)
          (eqb-true (class_in (count + 1) all found.0) k found.2) (pants.classes found.0 found.1))
      | inr not ↦ inr (factor-none h minus surface k not)
    ]
