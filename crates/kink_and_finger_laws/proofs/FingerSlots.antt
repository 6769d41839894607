-- The slots of a code with a finger.
use Rattle.std.proofs.lemmas.Bool.Decides.{nat_tests}
use Rattle.std.proofs.Common.{◌≡◌, ℕ, zero, suc, ◌+◌, ◌-◌, ◌<◌, ◌∙◌, List, [], ◌∷◌, length, refl, sym, ap, subst, arith, Bool, true, false, not}
use Rattle.std.specs.Prelude.{slice_index_or, if◌then◌else◌}
use Rattle.std.proofs.lemmas.List.{get_or_append_left, get_or-append-add, get_or-map, length-append, length-map}
use Rattle.std.proofs.lemmas.List.FromFn.{length-range_with_len, get_or-range_with_len}
use Rattle.kh_types.specs.declared.dart.Dart.{Dart}
use Rattle.kh_types.specs.Code.{arc_in, slots_of, crossing_numbers, IsCrossing}
use Rattle.kh_types.specs.Darts.{arc_of, IsDart}
use Rattle.kh_types.specs.Directions.{is_head}
use Rattle.kink_and_finger_laws.specs.FingerAdd.{opened, head_number, moved_arc, dart_with, moved_slots, moved_crossings, first_crossing, second_crossing, fingered_crossings}
use Rattle.kink_and_finger_laws.proofs.PassEnds.{HasPasses, HasPasses-crossing_with}

pub length-moved : (crossings : List (List ℕ)) (a b : ℕ) → length (moved_crossings crossings a b) ≡ length crossings
length-moved crossings a b = grind (arith, nat_tests, length-map, length-range_with_len)

pub length-fingered : (crossings : List (List ℕ)) (a b : ℕ) (positive ordered : Bool)
    → length (fingered_crossings crossings a b positive ordered) ≡ length crossings + 2
length-fingered crossings a b positive ordered = grind (arith, nat_tests, length-append, length-moved)

-- the slots of an old crossing
pub slots_of-old : (crossings : List (List ℕ)) (a b : ℕ) (positive ordered : Bool) (crossing : ℕ) → IsCrossing crossings crossing
    → slots_of (fingered_crossings crossings a b positive ordered) crossing ≡ moved_slots crossings a b crossing
slots_of-old crossings a b positive ordered crossing is =
    let place = crossing - 1 in
    let below : place < length crossings = omega (arith, is.positive, is.within) in
    let crossing_is : 1 + place ≡ crossing = omega (arith, is.positive) in
    get_or_append_left (moved_crossings crossings a b)
    (first_crossing (opened a b a) (opened a b b) positive ordered ∷ second_crossing (opened a b a) (opened a b b) positive ordered ∷ [])
    [] place (omega (arith, below, length-moved crossings a b))
    ∙ get_or-map (moved_slots crossings a b) (crossing_numbers crossings) place 0 [] (omega (arith, below, length-range_with_len 1 (length crossings)))
    ∙ ap (λ c. moved_slots crossings a b c) (get_or-range_with_len 1 (length crossings) place 0 below ∙ crossing_is)

-- those of the two new ones
pub slots_of-first : (crossings : List (List ℕ)) (a b : ℕ) (positive ordered : Bool)
    → slots_of (fingered_crossings crossings a b positive ordered) (length crossings + 1)
    ≡ first_crossing (opened a b a) (opened a b b) positive ordered
slots_of-first crossings a b positive ordered =
    let more = first_crossing (opened a b a) (opened a b b) positive ordered ∷ second_crossing (opened a b a) (opened a b b) positive ordered ∷ [] in
    let e : length crossings + 1 - 1 ≡ length (moved_crossings crossings a b) + 0 = omega (arith, length-moved crossings a b) in
    ap (λ k. slice_index_or (fingered_crossings crossings a b positive ordered) k []) e
    ∙ get_or-append-add (moved_crossings crossings a b) more 0 []

pub slots_of-second : (crossings : List (List ℕ)) (a b : ℕ) (positive ordered : Bool)
    → slots_of (fingered_crossings crossings a b positive ordered) (length crossings + 2)
    ≡ second_crossing (opened a b a) (opened a b b) positive ordered
slots_of-second crossings a b positive ordered =
    let more = first_crossing (opened a b a) (opened a b b) positive ordered ∷ second_crossing (opened a b a) (opened a b b) positive ordered ∷ [] in
    let e : length crossings + 2 - 1 ≡ length (moved_crossings crossings a b) + 1 = omega (arith, length-moved crossings a b) in
    ap (λ k. slice_index_or (fingered_crossings crossings a b positive ordered) k []) e
    ∙ get_or-append-add (moved_crossings crossings a b) more 1 []

-- the arc at a slot of an old crossing
pub arc_in-moved : (crossings : List (List ℕ)) (a b crossing slot : ℕ) → slot < 4
    → arc_in (moved_slots crossings a b crossing) slot ≡ moved_arc crossings a b (dart_with crossing slot)
arc_in-moved crossings a b crossing zero below = refl
arc_in-moved crossings a b crossing (suc zero) below = refl
arc_in-moved crossings a b crossing (suc (suc zero)) below = refl
arc_in-moved crossings a b crossing (suc (suc (suc zero))) below = refl
arc_in-moved crossings a b crossing (suc (suc (suc (suc slot)))) below = absurd (omega (arith, below))

pub arc_of-old : (crossings : List (List ℕ)) (a b : ℕ) (positive ordered : Bool) (dart : Dart) → IsDart crossings dart
    → arc_of (fingered_crossings crossings a b positive ordered) dart ≡ moved_arc crossings a b dart
arc_of-old crossings a b positive ordered dart is = grind (arith, nat_tests, slots_of-old, arc_in-moved)

pub arc_of-head : (crossings : List (List ℕ)) (a b : ℕ) (positive ordered : Bool) (dart : Dart) → IsDart crossings dart
    → is_head crossings dart ≡ true
    → arc_of (fingered_crossings crossings a b positive ordered) dart ≡ head_number a b (arc_of crossings dart)
arc_of-head crossings a b positive ordered dart is head = grind (arith, nat_tests, arc_of-old crossings a b positive ordered dart is)

pub arc_of-tail : (crossings : List (List ℕ)) (a b : ℕ) (positive ordered : Bool) (dart : Dart) → IsDart crossings dart
    → is_head crossings dart ≡ false
    → arc_of (fingered_crossings crossings a b positive ordered) dart ≡ opened a b (arc_of crossings dart)
arc_of-tail crossings a b positive ordered dart is tail = grind (arith, nat_tests, arc_of-old crossings a b positive ordered dart is)

-- the numbers on which the under passes of the two new crossings enter
abbrev pub first_start : Bool → ℕ → ℕ
first_start ordered under = if ordered then under else under + 1

abbrev pub second_start : Bool → ℕ → ℕ
second_start ordered under = if ordered then under + 1 else under

pub HasPasses-first : (crossings : List (List ℕ)) (a b : ℕ) (positive ordered : Bool)
    → HasPasses (slots_of (fingered_crossings crossings a b positive ordered) (length crossings + 1)) positive
    (first_start ordered (opened a b b)) (first_start ordered (opened a b b) + 1) (opened a b a) (opened a b a + 1)
HasPasses-first crossings a b positive ordered =
    let u = first_start ordered (opened a b b) in
    subst (λ (slots : List ℕ). HasPasses slots positive u (u + 1) (opened a b a) (opened a b a + 1))
    (sym (slots_of-first crossings a b positive ordered)) (by ordered (opened a b a) (opened a b b))
  where
    by : (ordered : Bool) (over under : ℕ)
        → HasPasses (first_crossing over under positive ordered) positive (first_start ordered under) (first_start ordered under + 1) over (over + 1)
    by ordered over under = grind (arith, nat_tests, HasPasses-crossing_with, HasPasses)

pub HasPasses-second : (crossings : List (List ℕ)) (a b : ℕ) (positive ordered : Bool)
    → HasPasses (slots_of (fingered_crossings crossings a b positive ordered) (length crossings + 2)) (not positive)
    (second_start ordered (opened a b b)) (second_start ordered (opened a b b) + 1) (opened a b a + 1) (opened a b a + 1 + 1)
HasPasses-second crossings a b positive ordered =
    let u = second_start ordered (opened a b b) in
    subst (λ (slots : List ℕ). HasPasses slots (not positive) u (u + 1) (opened a b a + 1) (opened a b a + 1 + 1))
    (sym (slots_of-second crossings a b positive ordered)) (by ordered (opened a b a) (opened a b b))
  where
    two_more : (x : ℕ) → x + 1 + 1 ≡ x + 2
    two_more x = omega arith

    by : (ordered : Bool) (over under : ℕ)
        → HasPasses (second_crossing over under positive ordered) (not positive) (second_start ordered under) (second_start ordered under + 1)
        (over + 1) (over + 1 + 1)
    by ordered over under = grind (arith, nat_tests, HasPasses, two_more, HasPasses-crossing_with)

-- the slots at which the two crossings of a finger meet
abbrev pub first_slot : Bool → Bool → ℕ
first_slot true true = 1
first_slot true false = 0
first_slot false true = 2
first_slot false false = 3

abbrev pub second_slot : Bool → Bool → ℕ
second_slot true true = 0
second_slot true false = 1
second_slot false true = 3
second_slot false false = 2
