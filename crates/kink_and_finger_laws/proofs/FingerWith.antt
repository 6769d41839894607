-- A code with a finger meets what the law on state sums asks: its old crossings stand on the new arcs, its last two crossings
-- show the finger, the loops stay, and there is one crossing more of each sign. The names inside the finger stand for numbers:
-- tail, middle and head of each of the two arcs for three numbers that follow one another, and one name for a spare number above
-- all arcs. Another function leads each new number back to its old arc, and the middles and the spare number to 0. The rest
-- compares numbers. The parts of the two arcs do not meet. The new crossings show those of the finger slot by slot, in four
-- cases. An old slot holds the number of its arc's tail or head: so it is no middle, and it leads back to its arc. And two
-- numbers of one old arc are equal, or they are tail and head of one of the two arcs.
use Rattle.std.proofs.Common.{◌≡◌, ◌≢◌, ℕ, ◌⊎◌, inl, inr, ◌+◌, ◌-◌, ◌*◌, ◌/◌, ◌%◌, ◌<◌, ◌≤◌, ◌∙◌, List, [], ◌∷◌, length, refl, sym, ap, subst, arith, Bool, true, false, ◌||◌}
use Rattle.std.specs.Prelude.{nat_eq, slice_index_or, if◌then◌else◌}
use Rattle.std.proofs.lemmas.Bool.Decides.{nat_tests}
use Rattle.std.proofs.lemmas.List.{append_assoc, get_or-map}
use Rattle.std.proofs.lemmas.List.FromFn.{length-range_with_len, get_or-range_with_len}
use Rattle.kh_types.specs.Code.{Code, arc_in, crossing_numbers, arc_count, IsArc}
use Rattle.kh_types.specs.Darts.{arc_of}
use Rattle.kink_and_finger_laws.specs.FingerAdd.{opened, head_number, moved_arc, dart_with, moved_slots, moved_crossings, first_crossing, second_crossing, fingered}
use Rattle.kink_and_finger_laws.proofs.MovableArcs.{AreFingerable}
use Rattle.gluing_laws.specs.Arcs.{arc_by_place}
use Rattle.gluing_laws.specs.Codes.{arc_of_dart, name_count}
use Rattle.gluing_laws.specs.SlidCodes.{Shows}
use Rattle.kink_and_finger_laws.specs.Fingers.{finger, AreAmong}
use Rattle.kink_and_finger_laws.specs.FingerCodes.{IsWithFinger}
use Rattle.kink_and_finger_laws.proofs.Opened.{low, IsOneOf, low-opened, low-head_number, head_number-one, head_number-within, opened-le-head_number, opened-from}
use Rattle.kink_and_finger_laws.proofs.FingerSlots.{length-fingered, length-moved, arc_in-moved}
use Rattle.kink_and_finger_laws.proofs.FingeredCodes.{IsDirected-fingered, plus_count-fingered, minus_count-fingered}

-- what stands for the numbers inside
abbrev pub placed_at : ℕ → ℕ → ℕ → ℕ → ℕ
placed_at over under spare i =
    if nat_eq i 1 then over else if nat_eq i 2 then over + 2 else if nat_eq i 3 then under else if nat_eq i 4 then under + 2
    else if nat_eq i 7 then over + 1 else if nat_eq i 8 then under + 1 else if nat_eq i 9 then spare else 0

-- the old arc of a number, where the middles and the spare number are as 0
abbrev pub lowered_to : ℕ → ℕ → ℕ → ℕ → ℕ
lowered_to a b spare y =
    if nat_eq y (opened a b a + 1) || (nat_eq y (opened a b b + 1) || nat_eq y spare) then 0 else low a b y

-- what is so of the three sides
of_sides : (P : ℕ → Type 0) → P 7 → P 8 → P 9 → (side : ℕ) → 7 ≤ side → side < 10 → P side
of_sides P at_seven at_eight at_nine side from below = grind (arith, nat_tests)

-- the parts of the two arcs do not meet
opened-apart : (a b : ℕ) → a ≢ b → (opened a b a + 2 < opened a b b) ⊎ (opened a b b + 2 < opened a b a)
opened-apart a b apart = grind (arith, nat_tests)

record Apart (over under spare : ℕ) : Type 0 where
  over_positive : 1 ≤ over
  under_positive : 1 ≤ under
  parts : (over + 2 < under) ⊎ (under + 2 < over)
  over_below : over + 2 < spare
  under_below : under + 2 < spare

placed-apart : (over under spare : ℕ) → Apart over under spare → (i side : ℕ) → i < side → 7 ≤ side → side < 10
    → placed_at over under spare i ≢ placed_at over under spare side
placed-apart over under spare is i side has6 has7 has8 = grind (arith, nat_tests)

placed-ends : (over under spare : ℕ) → Apart over under spare → (i j : ℕ) → i < j → j < 5
    → placed_at over under spare i ≢ placed_at over under spare j
placed-ends over under spare is i j has6 has7 = grind (arith, nat_tests)

placed-below : (over under spare : ℕ) → Apart over under spare → (i : ℕ) → placed_at over under spare i < spare + 1
placed-below over under spare is i = grind (arith, nat_tests)

-- the two new crossings show those inside
shows-four : (arcs : ℕ → ℕ) {i j k l p q r t : ℕ} → i ≡ arcs p → j ≡ arcs q → k ≡ arcs r → l ≡ arcs t
    → Shows arcs (i ∷ j ∷ k ∷ l ∷ []) (p ∷ q ∷ r ∷ t ∷ [])
shows-four arcs is_i is_j is_k is_l slot below = grind (arith, nat_tests)

shows-first : (positive ordered : Bool) (over under spare : ℕ)
    → Shows (placed_at over under spare) (first_crossing over under positive ordered) (slice_index_or (finger positive ordered) 0 [])
shows-first true true over under spare = shows-four (placed_at over under spare) refl refl refl refl
shows-first true false over under spare = shows-four (placed_at over under spare) refl refl refl refl
shows-first false true over under spare = shows-four (placed_at over under spare) refl refl refl refl
shows-first false false over under spare = shows-four (placed_at over under spare) refl refl refl refl

shows-second : (positive ordered : Bool) (over under spare : ℕ)
    → Shows (placed_at over under spare) (second_crossing over under positive ordered) (slice_index_or (finger positive ordered) 1 [])
shows-second true true over under spare = shows-four (placed_at over under spare) refl refl refl refl
shows-second true false over under spare = shows-four (placed_at over under spare) refl refl refl refl
shows-second false true over under spare = shows-four (placed_at over under spare) refl refl refl refl
shows-second false false over under spare = shows-four (placed_at over under spare) refl refl refl refl

-- the arc at a slot of an old crossing, before and after

old-arc : (crossings : List (List ℕ)) (place slot : ℕ) → arc_of crossings (dart_with (place + 1) slot) ≡ arc_by_place crossings place slot
old-arc crossings place slot = let e : place + 1 - 1 ≡ place = omega arith in ap (λ p. arc_by_place crossings p slot) e

-- the number of an arc's tail or of its head
abbrev IsEndOf : ℕ → ℕ → ℕ → ℕ → Type 0
IsEndOf a b x y = (y ≡ opened a b x) ⊎ (y ≡ head_number a b x)

moved-end : (crossings : List (List ℕ)) (a b place slot : ℕ) → place < length crossings → slot < 4
    → IsEndOf a b (arc_by_place crossings place slot) (arc_by_place (moved_crossings crossings a b) place slot)
moved-end crossings a b place slot below slot_below =
    let dart = dart_with (place + 1) slot in
    let at : arc_by_place (moved_crossings crossings a b) place slot ≡ moved_arc crossings a b dart =
    ap (λ s. arc_in s slot)
    (get_or-map (moved_slots crossings a b) (crossing_numbers crossings) place 0 [] (omega (arith, below, length-range_with_len 1 (length crossings)))
    ∙ ap (λ c. moved_slots crossings a b c)
    (get_or-range_with_len 1 (length crossings) place 0 below ∙ (let e : 1 + place ≡ place + 1 = omega arith in e)))
    ∙ arc_in-moved crossings a b (place + 1) slot slot_below in
    grind (arith, nat_tests, at, old-arc crossings place slot)

-- no end is a middle
end-no_middle : (a b x y z : ℕ) → a ≢ b → IsOneOf a b z → IsEndOf a b x y → y ≢ opened a b z + 1
end-no_middle a b x y z apart one end same = grind (arith, nat_tests)

-- the ends of one old arc are the same, or the tail and the head of one of the two arcs
ends-among : (a b x y z : ℕ) → a ≢ b → IsEndOf a b x y → IsEndOf a b x z
    → (y ≡ z) ⊎ (AreAmong y z (opened a b a) (opened a b a + 2) ⊎ AreAmong y z (opened a b b) (opened a b b + 2))
ends-among a b x y z apart first second = grind (arith, nat_tests)

-- and their old arc is that arc
lowered_to-end : (a b spare x y : ℕ) → a ≢ b → y < spare → IsEndOf a b x y → lowered_to a b spare y ≡ x
lowered_to-end a b spare x y apart small end =
    plain y (opened a b a + 1) (opened a b b + 1) spare (low a b y) x (end-no_middle a b x y a apart (inl refl) end)
    (end-no_middle a b x y b apart (inr refl) end) small (end-low a b x y apart end)
  where
    plain : (y p q s l x : ℕ) → y ≢ p → y ≢ q → y < s → l ≡ x → (if nat_eq y p || (nat_eq y q || nat_eq y s) then 0 else l) ≡ x
    plain y p q s l x not_p not_q small is = grind (arith, nat_tests)

    end-low : (a b x y : ℕ) → a ≢ b → IsEndOf a b x y → low a b y ≡ x
    end-low a b x y apart has5 = grind (arith, nat_tests, low, low-opened, low-head_number)

lowered_to-side : (a b spare y : ℕ) → (y ≡ opened a b a + 1) ⊎ ((y ≡ opened a b b + 1) ⊎ (y ≡ spare)) → 0 ≡ lowered_to a b spare y
lowered_to-side a b spare y side = grind (arith, nat_tests)

lowered_to-zero : (a b spare : ℕ) → opened a b a + 2 < spare → lowered_to a b spare 0 ≡ 0
lowered_to-zero a b spare small = grind (arith, nat_tests)

dart_place_of : (n end : ℕ) → end < 4 * n → (end / 4 < n) × (end % 4 < 4)
dart_place_of n end below = (omega (arith, below), omega arith)

pub IsWithFinger-fingered : (code : Code) (a b : ℕ) (positive ordered : Bool) → AreFingerable code.crossings a b
    → IsWithFinger positive ordered code (fingered code a b positive ordered)
    (placed_at (opened a b a) (opened a b b) (name_count code + 4)) (lowered_to a b (name_count code + 4))
IsWithFinger-fingered code a b positive ordered can =
    let crossings = code.crossings in
    let new = fingered code a b positive ordered in
    let over = opened a b a in
    let under = opened a b b in
    let spare = name_count code + 4 in
    let arcs = placed_at over under spare in
    let moved = moved_crossings crossings a b in
    let count = length-fingered crossings a b positive ordered in
    let over_head = head_number-within a b a (arc_count crossings) can.apart can.over.within can.under.within can.over.within in
    let under_head = head_number-within a b b (arc_count crossings) can.apart can.over.within can.under.within can.under.within in
    let over_is = head_number-one a b a (inl refl) in
    let under_is = head_number-one a b b (inr refl) in
    let apart : Apart over under spare = record {
      over_positive = omega (arith, opened-from a b a, can.over.positive);
      under_positive = omega (arith, opened-from a b b, can.under.positive);
      parts = opened-apart a b can.apart;
      over_below = omega (arith, over_head, over_is);
      under_below = omega (arith, under_head, under_is);
    } in
    let old_arc : (place slot : ℕ) → place < length crossings → slot < 4 → IsArc crossings (arc_by_place crossings place slot) =
    λ place slot below slot_below.
    subst (λ (x : ℕ). IsArc crossings x) (old-arc crossings place slot)
    (can.directed.slots (dart_with (place + 1) slot)
    (record { crossing = record { positive = omega arith; within = omega (arith, below) }; slot = slot_below })) in
    let moved_within : (place slot : ℕ) → place < length crossings → slot < 4 → arc_by_place moved place slot ≤ arc_count crossings + 4 =
    λ place slot below slot_below.
    let x = arc_by_place crossings place slot in
    let head = head_number-within a b x (arc_count crossings) can.apart can.over.within can.under.within (old_arc place slot below slot_below).within in
    elim (moved-end crossings a b place slot below slot_below) [
      | inl is ↦ omega (arith, is, head, opened-le-head_number a b x)
      | inr is ↦ omega (arith, is, head)
    ] in
    let no_over : (place slot : ℕ) → place < length crossings → slot < 4 → arc_by_place moved place slot ≢ over + 1 =
    λ place slot below slot_below.
    end-no_middle a b (arc_by_place crossings place slot) (arc_by_place moved place slot) a can.apart (inl refl) (moved-end crossings a b place slot below slot_below) in
    let no_under : (place slot : ℕ) → place < length crossings → slot < 4 → arc_by_place moved place slot ≢ under + 1 =
    λ place slot below slot_below.
    end-no_middle a b (arc_by_place crossings place slot) (arc_by_place moved place slot) b can.apart (inr refl) (moved-end crossings a b place slot below slot_below) in
    let no_spare : (place slot : ℕ) → place < length crossings → slot < 4 → arc_by_place moved place slot ≢ spare =
    λ place slot below slot_below same. omega (arith, moved_within place slot below slot_below, same) in
    let lowered : (place slot : ℕ) → place < length crossings → slot < 4
    → lowered_to a b spare (arc_by_place moved place slot) ≡ arc_by_place crossings place slot =
    λ place slot below slot_below.
    lowered_to-end a b spare (arc_by_place crossings place slot) (arc_by_place moved place slot) can.apart
    (omega (arith, moved_within place slot below slot_below)) (moved-end crossings a b place slot below slot_below) in
    let end_at : (x y : ℕ) → y < spare → IsEndOf a b x y → lowered_to a b spare y ≡ x =
    λ x y small end. lowered_to-end a b spare x y can.apart small end in
    let zero_is : lowered_to a b spare 0 ≡ 0 = lowered_to-zero a b spare apart.over_below in
    record {
      moved = moved;
      first = first_crossing over under positive ordered;
      second = second_crossing over under positive ordered;
      size = length-moved crossings a b;
      crossings = sym (append_assoc moved (first_crossing over under positive ordered ∷ []) (second_crossing over under positive ordered ∷ []));
      shows_first = shows-first positive ordered over under spare;
      shows_second = shows-second positive ordered over under spare;
      placed = record {
        zero_kept = refl;
        below = λ i i_below. omega (arith, placed-below over under spare apart i);
        apart = placed-apart over under spare apart;
      };
      holds = λ place slot below slot_below. omega (arith, (old_arc place slot below slot_below).within);
      new_holds = λ place slot below slot_below.
          let is = (IsDirected-fingered crossings a b positive ordered can).slots (dart_with (place + 1) slot)
          (record { crossing = record { positive = omega arith; within = omega (arith, below) }; slot = slot_below }) in
          omega (arith, is.within, old-arc new.crossings place slot);
      moved_holds = λ place slot below slot_below. omega (arith, moved_within place slot below slot_below);
      sides = λ place slot below slot_below.
          of_sides (λ side. arc_by_place moved place slot ≢ arcs side) (no_over place slot below slot_below)
          (no_under place slot below slot_below) (no_spare place slot below slot_below);
      arcs_lowered = record {
        lowered = λ end below.
            let at = dart_place_of (length crossings) end below in sym (lowered (end / 4) (end % 4) at.0 at.1);
        apart = λ x y x_below y_below same.
            let x_at = dart_place_of (length crossings) x x_below in
            let y_at = dart_place_of (length crossings) y y_below in
            let alike : arc_of_dart crossings y ≡ arc_of_dart crossings x =
            sym (lowered (y / 4) (y % 4) y_at.0 y_at.1) ∙ sym same ∙ lowered (x / 4) (x % 4) x_at.0 x_at.1 in
            ends-among a b (arc_of_dart crossings x) (arc_of_dart moved x) (arc_of_dart moved y) can.apart
            (moved-end crossings a b (x / 4) (x % 4) x_at.0 x_at.1)
            (subst (λ (z : ℕ). IsEndOf a b z (arc_of_dart moved y)) alike (moved-end crossings a b (y / 4) (y % 4) y_at.0 y_at.1));
        over = end_at a (over + 2) apart.over_below (inr (sym over_is)) ∙ sym (end_at a over (omega (arith, apart.over_below)) (inl refl));
        under = end_at b (under + 2) apart.under_below (inr (sym under_is)) ∙ sym (end_at b under (omega (arith, apart.under_below)) (inl refl));
        middles = of_sides (λ side. lowered_to a b spare (arcs 0) ≡ lowered_to a b spare (arcs side))
            (zero_is ∙ lowered_to-side a b spare (over + 1) (inl refl))
            (zero_is ∙ lowered_to-side a b spare (under + 1) (inr (inl refl)))
            (zero_is ∙ lowered_to-side a b spare spare (inr (inr refl)));
        ends = placed-ends over under spare apart;
      };
      loops = refl;
      plus = plus_count-fingered crossings a b positive ordered can;
      minus = minus_count-fingered crossings a b positive ordered can;
    }
