-- The slots of a code with a kink on an arc. The old crossings come first, at their places. A slot of theirs holds its old
-- number, which has risen by two if it is above the kinked arc; only the head of that arc holds the last of its three parts
-- instead. This is said of slots by places, then of darts: heads, tails, and darts of other arcs. The new crossing is the last.
-- Its two passes go from the first part of the arc to the middle one and from there to the last, over or under first. So one slot
-- has the first part, one the last, and two slots have the middle part. Which slots these are is told in the four cases of a
-- kink: over or under first, positive or negative.
use Rattle.std.proofs.Common.{◌≡◌, ℕ, zero, suc, ◌+◌, ◌-◌, ◌<◌, ◌≢◌, ◌∙◌, List, [], ◌∷◌, ◌++◌, length, refl, ap, arith, Bool, true, false}
use Rattle.std.specs.Prelude.{slice_index_or, nat_eq, ◌&&◌, if◌then◌else◌}
use Rattle.std.specs.List.{range_with_len}
use Rattle.std.proofs.lemmas.List.{get_or_append_left, get_or-append-add, get_or-map, length-append, length-map}
use Rattle.std.proofs.lemmas.List.FromFn.{length-range_with_len, get_or-range_with_len}
use Rattle.std.proofs.lemmas.Bool.Decides.{nat_tests}
use Rattle.kh_types.specs.declared.dart.Dart.{Dart}
use Rattle.kh_types.specs.Code.{arc_in, slots_of}
use Rattle.kh_types.specs.Darts.{arc_of, IsDart}
use Rattle.kh_types.specs.Directions.{is_head, is_positive, positive_at}
use Rattle.kink_and_finger_laws.proofs.PassEnds.{HasPasses}
use Rattle.gluing_laws.specs.Arcs.{enters}
use Rattle.code_passes.specs.Parts.{slots_in}
use Rattle.kink_and_finger_laws.specs.KinkAdds.{raised, kinked_name, kinked_slots, kink_crossing, raised_crossings}

-- the crossings with a kink on the arc a, whose first pass is over or under, and which is positive or negative
abbrev pub kinked_crossings : List (List ℕ) → ℕ → Bool → Bool → List (List ℕ)
kinked_crossings crossings a is_over is_positive = raised_crossings a crossings ++ kink_crossing is_over is_positive a ∷ []

-- the number at the head of an old arc: of the arc a, which has three parts now, it is the last part
abbrev pub last : ℕ → ℕ → ℕ
last a x = if nat_eq x a then a + 2 else raised a x

pub length-moved : (crossings : List (List ℕ)) (a : ℕ) → length (raised_crossings a crossings) ≡ length crossings
length-moved crossings a = grind (arith, nat_tests, length-map, length-range_with_len)

pub length-kinked : (crossings : List (List ℕ)) (a : ℕ) (over positive : Bool)
    → length (kinked_crossings crossings a over positive) ≡ length crossings + 1
length-kinked crossings a over positive = grind (arith, nat_tests, length-append, length-moved)

-- the slots of the old crossing at a place
pub slots_in-moved : (crossings : List (List ℕ)) (a place : ℕ) → place < length crossings
    → slots_in (raised_crossings a crossings) place ≡ kinked_slots a (positive_at crossings place) (slots_in crossings place)
slots_in-moved crossings a place below =
    let e : 0 + place ≡ place = omega arith in
    get_or-map (λ place. kinked_slots a (positive_at crossings place) (slots_in crossings place)) (range_with_len 0 (length crossings)) place 0 []
    (omega (arith, below, length-range_with_len 0 (length crossings)))
    ∙ ap (λ c. kinked_slots a (positive_at crossings c) (slots_in crossings c))
    (get_or-range_with_len 0 (length crossings) place 0 below ∙ e)

pub slots_in-old : (crossings : List (List ℕ)) (a : ℕ) (over positive : Bool) (place : ℕ) → place < length crossings
    → slots_in (kinked_crossings crossings a over positive) place ≡ kinked_slots a (positive_at crossings place) (slots_in crossings place)
slots_in-old crossings a over positive place below = grind (arith, nat_tests, get_or_append_left, length-moved, slots_in-moved)

-- those of the new one
pub slots_of-new : (crossings : List (List ℕ)) (a : ℕ) (over positive : Bool)
    → slots_of (kinked_crossings crossings a over positive) (length crossings + 1) ≡ kink_crossing over positive a
slots_of-new crossings a over positive =
    let e : length crossings + 1 - 1 ≡ length (raised_crossings a crossings) + 0 = omega (arith, length-moved crossings a) in
    ap (λ k. slice_index_or (kinked_crossings crossings a over positive) k []) e
    ∙ get_or-append-add (raised_crossings a crossings) (kink_crossing over positive a ∷ []) 0 []

-- the arc at a slot of an old crossing
pub arc_in-kinked : (a : ℕ) (sign : Bool) (slots : List ℕ) (slot : ℕ) → slot < 4
    → arc_in (kinked_slots a sign slots) slot ≡ kinked_name a (enters sign slot) (arc_in slots slot)
arc_in-kinked a sign slots zero below = refl
arc_in-kinked a sign slots (suc zero) below = refl
arc_in-kinked a sign slots (suc (suc zero)) below = refl
arc_in-kinked a sign slots (suc (suc (suc zero))) below = refl
arc_in-kinked a sign slots (suc (suc (suc (suc slot)))) below = absurd (omega (arith, below))

pub arc_of-old : (crossings : List (List ℕ)) (a : ℕ) (over positive : Bool) (dart : Dart) → IsDart crossings dart
    → arc_of (kinked_crossings crossings a over positive) dart ≡ kinked_name a (is_head crossings dart) (arc_of crossings dart)
arc_of-old crossings a over positive dart is =
    let place = dart.crossing - 1 in
    let below : place < length crossings = omega (arith, is.crossing.positive, is.crossing.within) in
    let again : place + 1 ≡ dart.crossing = omega (arith, is.crossing.positive) in
    ap (λ s. arc_in s dart.slot) (slots_in-old crossings a over positive place below)
    ∙ arc_in-kinked a (positive_at crossings place) (slots_in crossings place) dart.slot is.slot
    ∙ ap (λ c. kinked_name a (enters (is_positive crossings c) dart.slot) (arc_of crossings dart)) again

pub arc_of-head : (crossings : List (List ℕ)) (a : ℕ) (over positive : Bool) (dart : Dart) → IsDart crossings dart
    → is_head crossings dart ≡ true
    → arc_of (kinked_crossings crossings a over positive) dart ≡ last a (arc_of crossings dart)
arc_of-head crossings a over positive dart is head =
    arc_of-old crossings a over positive dart is
    ∙ ap (λ h. kinked_name a h (arc_of crossings dart)) head ∙ with_true (nat_eq (arc_of crossings dart) a) (a + 2) (raised a (arc_of crossings dart))
  where
    with_true : (b : Bool) (x y : ℕ) → (if b && true then x else y) ≡ (if b then x else y)
    with_true b x y = grind (arith, nat_tests)

pub arc_of-tail : (crossings : List (List ℕ)) (a : ℕ) (over positive : Bool) (dart : Dart) → IsDart crossings dart
    → is_head crossings dart ≡ false
    → arc_of (kinked_crossings crossings a over positive) dart ≡ raised a (arc_of crossings dart)
arc_of-tail crossings a over positive dart is tail =
    arc_of-old crossings a over positive dart is
    ∙ ap (λ h. kinked_name a h (arc_of crossings dart)) tail ∙ with_false (nat_eq (arc_of crossings dart) a) (a + 2) (raised a (arc_of crossings dart))
  where
    with_false : (b : Bool) (x y : ℕ) → (if b && false then x else y) ≡ y
    with_false b x y = grind (arith, nat_tests)

-- the arc there, where it is not a
pub arc_of-other : (crossings : List (List ℕ)) (a : ℕ) (over positive : Bool) (dart : Dart) → IsDart crossings dart
    → arc_of crossings dart ≢ a
    → arc_of (kinked_crossings crossings a over positive) dart ≡ raised a (arc_of crossings dart)
arc_of-other crossings a over positive dart is not_a =
    arc_of-old crossings a over positive dart is ∙ plain a (is_head crossings dart) (arc_of crossings dart) not_a
  where
    plain : (a : ℕ) (head : Bool) (x : ℕ) → x ≢ a → kinked_name a head x ≡ raised a x
    plain a head x other = grind (arith, nat_tests)

-- the numbers on which the passes of the new crossing enter
abbrev pub under_start : Bool → ℕ → ℕ
under_start over a = if over then a + 1 else a

abbrev pub over_start : Bool → ℕ → ℕ
over_start over a = if over then a else a + 1

pub HasPasses-kink : (over positive : Bool) (a : ℕ)
    → HasPasses (kink_crossing over positive a) positive (under_start over a) (under_start over a + 1) (over_start over a) (over_start over a + 1)
HasPasses-kink over positive a = grind (arith, nat_tests)

-- the slots of the new crossing where a, a+2, and twice a+1 stand
abbrev pub start_slot : Bool → Bool → ℕ
start_slot true true = 3
start_slot true false = 1
start_slot false positive = 0

abbrev pub end_slot : Bool → Bool → ℕ
end_slot true positive = 2
end_slot false true = 1
end_slot false false = 3

abbrev pub inner_slot : Bool → Bool → ℕ
inner_slot true true = 0
inner_slot true false = 3
inner_slot false true = 2
inner_slot false false = 1

abbrev pub outer_slot : Bool → Bool → ℕ
outer_slot true true = 1
outer_slot true false = 0
outer_slot false true = 3
outer_slot false false = 2

pub record HasKinkSlots (slots : List ℕ) (a : ℕ) (over positive : Bool) : Type 0 where
  pub start : arc_in slots (start_slot over positive) ≡ a
  pub end : arc_in slots (end_slot over positive) ≡ a + 2
  pub inner : arc_in slots (inner_slot over positive) ≡ a + 1
  pub outer : arc_in slots (outer_slot over positive) ≡ a + 1

pub HasKinkSlots-kink : (over positive : Bool) (a : ℕ) → HasKinkSlots (kink_crossing over positive a) a over positive
HasKinkSlots-kink over positive a = grind (arith, nat_tests)

pub HasKinkSlots-new : (crossings : List (List ℕ)) (a : ℕ) (over positive : Bool)
    → HasKinkSlots (slots_of (kinked_crossings crossings a over positive) (length crossings + 1)) a over positive
HasKinkSlots-new crossings a over positive = grind (arith, nat_tests, slots_of-new, HasKinkSlots-kink)

pub record AreFour (over positive : Bool) : Type 0 where
  pub start : start_slot over positive < 4
  pub end : end_slot over positive < 4
  pub inner : inner_slot over positive < 4
  pub outer : outer_slot over positive < 4
  pub apart : inner_slot over positive ≢ outer_slot over positive

pub AreFour-kink : (over positive : Bool) → AreFour over positive
AreFour-kink over positive = grind (arith, nat_tests)
