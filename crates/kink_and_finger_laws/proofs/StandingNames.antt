-- The classes of names at crossings are those of names that stand at some crossing, and the others, each alone in its class. For
-- if all pairs are of names that stand, a mark on a name that stands nowhere is kept by the pairs; so that name is joined with no
-- other, and the classes are as many as the standing ones and the names that do not stand. Where crossings are dropped, arcs are
-- contracted along the straight pairs. So pairs at the crossings that stay make as many standing classes, with the rings and one
-- for the number 0, as the same pairs make with the straight pairs in the arcs before. Counts in lists come first; at the end
-- stands that passes and smoothings are pairs of standing names.
use Rattle.std.proofs.Common.{◌≡◌, ◌≢◌, ℕ, zero, suc, ◌⊎◌, inl, inr, ◌+◌, ◌-◌, ◌<◌, ◌≤◌, ◌∙◌, List, [], ◌∷◌, ◌++◌, sym, ap, subst, arith, refl, Bool, true, false, cond, not, ◌&&◌, ◌||◌, length, map, eq-eqb, count_by}
use Rattle.std.specs.Prelude.{slice_index, nat_eq, min}
use Rattle.std.specs.List.{flat_map, range_with_len, AllByRecursion}
use Rattle.std.proofs.lemmas.Bool.{cases_Bool, ne_eqb, both_ways}
use Rattle.std.proofs.lemmas.Bool.Decides.{nat_tests}
use Rattle.std.proofs.lemmas.List.Sums.{length-filter, sum_by-cons}
use Rattle.kh_types.specs.Bits.{bit}
use Rattle.kh_types.specs.Circles.{smoothings_of}
use Rattle.kh_types.specs.Classes.{classes_of, class_count, is_least, Respects, AreBelow}
use Rattle.kh_types.specs.Code.{arc_in, arc_count}
use Rattle.kh_types.specs.Components.{passes_of}
use Rattle.kh_types.specs.Darts.{HasArcsTwice}
use Rattle.kh_types.proofs.ClassLemmas.{classes-finest}
use Rattle.kh_types.proofs.JoinedClasses.{IsNamed-classes_of}
use Rattle.kh_types.proofs.Lists.{AllByRecursion-append}
use Rattle.kh_types.proofs.RangeCounts.{count_by-alike}
use Rattle.gluing_laws.specs.Glue.{renamed}
use Rattle.gluing_laws.specs.Arcs.{arc_by_place}
use Rattle.gluing_laws.proofs.Renamed.{AreBelow-renamed}
use Rattle.code_passes.specs.Parts.{slots_in}
use Rattle.kink_and_finger_laws.specs.Drops.{straight_pairs, straight_names, kept_places, kept_crossings, stands_in, ring_count}
use Rattle.kink_and_finger_laws.specs.DropComponents.{standing_class_count}
use Rattle.kink_and_finger_laws.proofs.Contracted.{class_count-contracted}
use Rattle.kink_and_finger_laws.proofs.KeptCodes.{straight-below, arc_by_place-below, all-gone, kept-slots, length-kept, renamed_slots-at}
use Rattle.kink_and_finger_laws.proofs.SmoothingPairs.{smoothings-all}
use Rattle.kink_and_finger_laws.proofs.BigonJoins.{marked, or-false}

-- counts

parts-step : (b c : Bool) (p q r : ℕ) → p ≡ q + r → cond b 1 0 + p ≡ (cond (b && c) 1 0 + q) + (cond (b && not c) 1 0 + r)
parts-step b c p q r is = grind (arith, nat_tests)

pub count_by-cons : (p : ℕ → Bool) (x : ℕ) (xs : List ℕ) → count_by p (x ∷ xs) ≡ cond (p x) 1 0 + count_by p xs
count_by-cons p x xs = sum_by-cons (λ y. cond (p y) 1 0) x xs

pub count-parts : (p q : ℕ → Bool) (xs : List ℕ) → count_by p xs ≡ count_by (λ x. p x && q x) xs + count_by (λ x. p x && not (q x)) xs
count-parts p q [] = refl
count-parts p q (x ∷ xs) =
    let both : ℕ → Bool = λ x. p x && q x in
    let first : ℕ → Bool = λ x. p x && not (q x) in
    let step = parts-step (p x) (q x) (count_by p xs) (count_by (λ x. p x && q x) xs) (count_by (λ x. p x && not (q x)) xs) (count-parts p q xs) in
    omega (arith, step, count_by-cons p x xs, count_by-cons (λ x. p x && q x) x xs, count_by-cons (λ x. p x && not (q x)) x xs)

pub count-all : (a n : ℕ) → count_by (λ x. true) (range_with_len a n) ≡ n
count-all a zero = refl
count-all a (suc n) = grind (arith, nat_tests, count-all (a + 1) n, count_by-cons (λ x. true) a (range_with_len (a + 1) n))

-- names that stand at a crossing, and others

abbrev stands_at : List ℕ → ℕ → Bool
stands_at slots name =
    nat_eq (arc_in slots 0) name || (nat_eq (arc_in slots 1) name || (nat_eq (arc_in slots 2) name || nat_eq (arc_in slots 3) name))

stands_at-slot : (slots : List ℕ) (name slot : ℕ) → slot < 4 → stands_at slots name ≡ false → arc_in slots slot ≢ name
stands_at-slot slots name slot below fails same = grind (arith, nat_tests)

pub stands-none : (crossings : List (List ℕ)) (name place slot : ℕ) → stands_in crossings name ≡ false → place < length crossings → slot < 4
    → arc_by_place crossings place slot ≢ name
stands-none [] name place slot fails below slot_below = absurd (omega (arith, below))
stands-none (slots ∷ rest) name zero slot fails below slot_below =
    stands_at-slot slots name slot slot_below (or-false (stands_at slots name) (stands_in rest name) fails).0
stands-none (slots ∷ rest) name (suc place) slot fails below slot_below =
    stands-none rest name place slot (or-false (stands_at slots name) (stands_in rest name) fails).1 (omega (arith, below)) slot_below

-- a property of all names at crossings is had by each name that stands
pub stands-some : (P : ℕ → Type 0) (crossings : List (List ℕ)) (name : ℕ)
    → ((place slot : ℕ) → place < length crossings → slot < 4 → P (arc_by_place crossings place slot)) → stands_in crossings name ≡ true → P name
stands-some P [] name each holds = absurd (both_ways false refl holds)
stands-some P (slots ∷ rest) name each holds =
    let at : (slot : ℕ) → slot < 4 → arc_in slots slot ≡ name → P name = λ slot below is. subst P is (each 0 slot (omega arith) below) in
    elim (or-true (stands_at slots name) (stands_in rest name) holds) [
      | inr later ↦ stands-some P rest name (λ place slot below slot_below. each (suc place) slot (omega (arith, below)) slot_below) later
      | inl here ↦ elim (one_of (arc_in slots 0) (arc_in slots 1) (arc_in slots 2) (arc_in slots 3) name here) [
        | inl first ↦ elim first [ inl is ↦ at 0 (omega arith) is | inr is ↦ at 1 (omega arith) is ]
        | inr last ↦ elim last [ inl is ↦ at 2 (omega arith) is | inr is ↦ at 3 (omega arith) is ]
      ]
    ]
  where
    or-true : (a b : Bool) → (a || b) ≡ true → (a ≡ true) ⊎ (b ≡ true)
    or-true a b holds = grind (arith, nat_tests)

    one_of : (a b c d name : ℕ) → (nat_eq a name || (nat_eq b name || (nat_eq c name || nat_eq d name))) ≡ true
        → ((a ≡ name) ⊎ (b ≡ name)) ⊎ ((c ≡ name) ⊎ (d ≡ name))
    one_of a b c d name holds = grind (arith, nat_tests)

pub class_count-least : (n : ℕ) (pairs : List (ℕ × ℕ)) → AreBelow n pairs
    → class_count (classes_of n pairs) ≡ count_by (is_least (classes_of n pairs)) (range_with_len 0 n)
class_count-least n pairs below =
    grind (arith, nat_tests, IsNamed-classes_of n pairs below, length-filter (is_least (classes_of n pairs)) (range_with_len 0 n))

pub arc_by_place-positive : (crossings : List (List ℕ)) (place slot : ℕ) → HasArcsTwice crossings → place < length crossings → slot < 4
    → 1 ≤ arc_by_place crossings place slot
arc_by_place-positive crossings place slot twice below slot_below =
    let is = twice.slots (record { crossing = place + 1; slot = slot })
    (record { crossing = record { positive = omega arith; within = omega (arith, below) }; slot = slot_below }) in
    let e : place + 1 - 1 ≡ place = omega arith in
    let same : arc_by_place crossings (place + 1 - 1) slot ≡ arc_by_place crossings place slot = ap (λ q. arc_by_place crossings q slot) e in
    omega (arith, same, is.positive)

-- all pairs are of names that stand: what is 0 at each name that stands is one at both names of each pair
pub IsOfNames : List (List ℕ) → List (ℕ × ℕ) → Type 0
IsOfNames crossings pairs =
    (f : ℕ → ℕ) → ((place slot : ℕ) → place < length crossings → slot < 4 → f (arc_by_place crossings place slot) ≡ 0) → Respects f pairs

-- a name that stands nowhere is alone in its class
pub alone-in : (n : ℕ) (crossings : List (List ℕ)) (pairs : List (ℕ × ℕ)) (name : ℕ) → AreBelow n pairs → IsOfNames crossings pairs → name < n
    → stands_in crossings name ≡ false → is_least (classes_of n pairs) name ≡ true
unfolding IsOfNames
alone-in n crossings pairs name below of_names name_below fails =
    let named = IsNamed-classes_of n pairs below in
    let mark : ℕ → ℕ = λ z. cond (nat_eq z name) 1 0 in
    let respects : Respects (λ z. cond (nat_eq z name) 1 0) pairs =
    of_names (λ z. cond (nat_eq z name) 1 0)
    (λ place slot place_below slot_below.
    ap (λ t. cond t 1 0) (ne_eqb (arc_by_place crossings place slot) name (stands-none crossings name place slot fails place_below slot_below))) in
    let class = slice_index (classes_of n pairs) name in
    let class_below : slice_index (classes_of n pairs) name < n = omega (arith, named.least name name_below, name_below) in
    let same = classes-finest mark n pairs respects below class name class_below name_below (named.own name name_below) in
    let own : mark name ≡ 1 = ap (λ t. cond t 1 0) (eq-eqb name name refl) in
    elim (cases_Bool (nat_eq (slice_index (classes_of n pairs) name) name)) [
      | inl is ↦ is
      | inr away ↦
          let zero_one : 0 ≡ 1 = sym (ap (λ t. cond t 1 0) away) ∙ same ∙ own in
          absurd (omega (arith, zero_one))
    ]

-- so the classes are those of the names that stand, and one for each name that does not
pub standing-classes : (n : ℕ) (crossings : List (List ℕ)) (pairs : List (ℕ × ℕ)) → AreBelow n pairs → IsOfNames crossings pairs
    → standing_class_count n crossings pairs + n
    ≡ class_count (classes_of n pairs) + count_by (stands_in crossings) (range_with_len 0 n)
standing-classes n crossings pairs below of_names =
    let parts = count-parts (is_least (classes_of n pairs)) (stands_in crossings) (range_with_len 0 n) in
    let alone : count_by (λ x. is_least (classes_of n pairs) x && not (stands_in crossings x)) (range_with_len 0 n)
    ≡ count_by (λ x. true && not (stands_in crossings x)) (range_with_len 0 n) =
    count_by-alike (λ x. is_least (classes_of n pairs) x && not (stands_in crossings x)) (λ x. true && not (stands_in crossings x)) 0 n
    (λ x from x_below. and-if (is_least (classes_of n pairs) x) (stands_in crossings x)
    (λ fails. alone-in n crossings pairs x below of_names (omega (arith, x_below)) fails)) in
    let all = count-all 0 n in
    let whole = count-parts (λ x. true) (stands_in crossings) (range_with_len 0 n) in
    let stand : count_by (λ x. true && stands_in crossings x) (range_with_len 0 n) ≡ count_by (stands_in crossings) (range_with_len 0 n) =
    count_by-alike (λ x. true && stands_in crossings x) (stands_in crossings) 0 n (λ x from x_below. refl) in
    omega (arith, parts, alone, all, whole, stand, class_count-least n pairs below)
  where
    and-if : (a b : Bool) → (b ≡ false → a ≡ true) → (a && not b) ≡ (true && not b)
    and-if a b tells = grind (arith, nat_tests)

-- the classes of pairs at the crossings that stay
pub classes-dropped : (crossings : List (List ℕ)) (gone : ℕ → Bool) (kept : ℕ → ℕ) (k : ℕ) (outer : List (ℕ × ℕ)) → HasArcsTwice crossings
    → kept_places crossings gone ≡ map kept (range_with_len 0 k) → ((i : ℕ) → i < k → kept i < length crossings)
    → AreBelow (arc_count crossings + 1) outer
    → IsOfNames (kept_crossings crossings gone) (renamed (slice_index (straight_names crossings gone)) outer)
    → standing_class_count (arc_count crossings + 1) (kept_crossings crossings gone) (renamed (slice_index (straight_names crossings gone)) outer)
    + ring_count crossings gone + 1
    ≡ class_count (classes_of (arc_count crossings + 1) (straight_pairs crossings gone ++ outer))
classes-dropped crossings gone kept k outer twice places kept_below outer_low of_names =
    let n = arc_count crossings + 1 in
    let straight = straight_pairs crossings gone in
    let straight_low = straight-below crossings gone twice in
    let names = straight_names crossings gone in
    let named = IsNamed-classes_of (arc_count crossings + 1) (straight_pairs crossings gone) straight_low in
    let new = renamed (slice_index (straight_names crossings gone)) outer in
    let low_names : (x : ℕ) → x < arc_count crossings + 1 → slice_index (straight_names crossings gone) x < arc_count crossings + 1 =
    λ x below. omega (arith, below, named.least x below) in
    let left_low : AreBelow (arc_count crossings + 1) (renamed (slice_index (straight_names crossings gone)) outer) =
    AreBelow-renamed (arc_count crossings + 1) (arc_count crossings + 1) (slice_index (straight_names crossings gone))
    outer low_names outer_low in
    let stands : ℕ → Bool = stands_in (kept_crossings crossings gone) in
    let range = range_with_len 0 (arc_count crossings + 1) in
    let left_size = length-kept crossings gone kept k places in
    let is_name : (place slot : ℕ) → place < length (kept_crossings crossings gone) → slot < 4
    → arc_by_place (kept_crossings crossings gone) place slot ≡ slice_index (straight_names crossings gone) (arc_by_place crossings (kept place) slot) =
    λ place slot below slot_below.
    ap (λ slots. arc_in slots slot) (kept-slots crossings gone kept k place places (omega (arith, below, left_size)))
    ∙ renamed_slots-at (straight_names crossings gone) (slots_in crossings (kept place)) slot slot_below in
    let old_below : (place slot : ℕ) → place < length (kept_crossings crossings gone) → slot < 4
    → arc_by_place crossings (kept place) slot < arc_count crossings + 1 =
    λ place slot below slot_below.
    arc_by_place-below crossings (kept place) slot twice (kept_below place (omega (arith, below, left_size))) slot_below in
    let stands_least : (x : ℕ) → stands_in (kept_crossings crossings gone) x ≡ true → is_least (straight_names crossings gone) x ≡ true =
    λ x holds.
    stands-some (λ y. is_least (straight_names crossings gone) y ≡ true) (kept_crossings crossings gone) x
    (λ place slot below slot_below.
    subst (λ (y : ℕ). is_least (straight_names crossings gone) y ≡ true) (sym (is_name place slot below slot_below))
    (eq-eqb (slice_index (straight_names crossings gone) (slice_index (straight_names crossings gone) (arc_by_place crossings (kept place) slot)))
    (slice_index (straight_names crossings gone) (arc_by_place crossings (kept place) slot))
    (named.own (arc_by_place crossings (kept place) slot) (old_below place slot below slot_below)))) holds in
    let zero_apart : stands_in (kept_crossings crossings gone) 0 ≡ false =
    elim (cases_Bool (stands_in (kept_crossings crossings gone) 0)) [
      | inr fails ↦ fails
      | inl holds ↦
          let one : 1 ≤ 0 =
          stands-some (λ y. 1 ≤ y) (kept_crossings crossings gone) 0
          (λ place slot below slot_below.
          let old = arc_by_place crossings (kept place) slot in
          let same = classes-finest (λ z. min z 1) (arc_count crossings + 1) (straight_pairs crossings gone)
          (all-gone (λ pair. min pair.0 1 ≡ min pair.1 1) (λ place. passes_of (slots_in crossings place)) gone 0 (length crossings)
          (λ q from q_below is.
          let at = λ (slot : ℕ) (slot_below : slot < 4). arc_by_place-positive crossings q slot twice (omega (arith, q_below)) slot_below in (
            min-one (arc_by_place crossings q 0) (arc_by_place crossings q 2) (at 0 (omega arith)) (at 2 (omega arith)),
            (min-one (arc_by_place crossings q 1) (arc_by_place crossings q 3) (at 1 (omega arith)) (at 3 (omega arith)), tt),
          )))
          straight_low (slice_index (straight_names crossings gone) (arc_by_place crossings (kept place) slot)) (arc_by_place crossings (kept place) slot)
          (low_names (arc_by_place crossings (kept place) slot) (old_below place slot below slot_below)) (old_below place slot below slot_below)
          (named.own (arc_by_place crossings (kept place) slot) (old_below place slot below slot_below)) in
          let positive = arc_by_place-positive crossings (kept place) slot twice (kept_below place (omega (arith, below, left_size))) slot_below in
          min-positive (arc_by_place (kept_crossings crossings gone) place slot) (slice_index (straight_names crossings gone) (arc_by_place crossings (kept place) slot))
          (arc_by_place crossings (kept place) slot) (is_name place slot below slot_below) same positive) holds in
          absurd (omega (arith, one))
    ] in
    let parts_names = count-parts (is_least names) stands range in
    let stand_names : count_by (λ x. is_least names x && stands x) range ≡ count_by stands range =
    count_by-alike (λ x. is_least names x && stands x) stands 0 (arc_count crossings + 1)
    (λ x from below. and-all (is_least names x) (stands x) (stands_least x)) in
    let zero_least : is_least names 0 ≡ true =
    eq-eqb (slice_index names 0) 0 (omega (arith, named.least 0 (omega arith))) in
    let e : arc_count crossings + 1 ≡ suc (arc_count crossings) = omega arith in
    let rings : count_by (λ x. is_least names x && not (stands x)) range ≡ 1 + ring_count crossings gone =
    ap (λ m. count_by (λ x. is_least names x && not (stands x)) (range_with_len 0 m)) e
    ∙ count_by-cons (λ x. is_least names x && not (stands x)) 0 (range_with_len 1 (arc_count crossings))
    ∙ ap (λ t. cond t 1 0 + count_by (λ x. is_least names x && not (stands x)) (range_with_len 1 (arc_count crossings)))
    (ap (λ t. t && not (stands 0)) zero_least ∙ ap not zero_apart) in
    let contracted = class_count-contracted (arc_count crossings + 1) straight outer straight_low outer_low in
    let names_least = class_count-least (arc_count crossings + 1) (straight_pairs crossings gone) straight_low in
    let standing = standing-classes (arc_count crossings + 1) (kept_crossings crossings gone) new left_low of_names in
    omega (arith, parts_names, stand_names, rings, contracted, names_least, standing)
  where
    min-one : (a b : ℕ) → 1 ≤ a → 1 ≤ b → min a 1 ≡ min b 1
    min-one a b first second = grind (arith, nat_tests)

    min-positive : (x y z : ℕ) → x ≡ y → min y 1 ≡ min z 1 → 1 ≤ z → 1 ≤ x
    min-positive x y z is same positive = grind (arith, nat_tests)

    and-all : (a b : Bool) → (b ≡ true → a ≡ true) → (a && b) ≡ b
    and-all a b tells = grind (arith, nat_tests)

pub passes-all : (P : ℕ × ℕ → Type 0) (crossings : List (List ℕ))
    → ((place : ℕ) → place < length crossings → AllByRecursion P (passes_of (slots_in crossings place)))
    → AllByRecursion P (flat_map passes_of crossings)
passes-all P [] each = tt
passes-all P (slots ∷ rest) each =
    AllByRecursion-append P (passes_of slots) (flat_map passes_of rest) (each 0 (omega arith))
    (passes-all P rest (λ place below. each (suc place) (omega (arith, below))))

pub IsOfNames-passes : (crossings : List (List ℕ)) → IsOfNames crossings (flat_map passes_of crossings)
unfolding IsOfNames
IsOfNames-passes crossings f holds =
    passes-all (λ pair. f pair.0 ≡ f pair.1) crossings
    (λ place below. (
      holds place 0 below (omega arith) ∙ sym (holds place 2 below (omega arith)),
      (holds place 1 below (omega arith) ∙ sym (holds place 3 below (omega arith)), tt),
    ))

pub IsOfNames-smoothings : (crossings : List (List ℕ)) (state : ℕ) → IsOfNames crossings (smoothings_of crossings state)
unfolding IsOfNames
IsOfNames-smoothings crossings state f holds =
    smoothings-all (λ pair. f pair.0 ≡ f pair.1) crossings state
    (λ place below. marked f (bit state place) (slots_in crossings place) (λ slot slot_below. holds place slot below slot_below))
