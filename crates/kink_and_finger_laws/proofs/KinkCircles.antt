-- The circles of states at a kink: a state that goes through the kink has as many as the same state without that crossing, and a
-- state that closes the kink has one more. Without the crossing, circles are the classes of the straight pairs there and of the
-- smoothings of the other crossings. A state that goes through has these same classes: as one arc stands at both slots of the
-- kink, its smoothing there and the straight pairs join the same arcs. A state that closes the kink joins the two arcs at the
-- other two slots, and the straight pairs tie the kink's arc to them besides. That arc stands at no other slot, so a mark on it
-- alone shows that it was in a class of its own: with the straight pairs there is one class fewer. Last, the circles of a code
-- are its classes, but for that of the number 0, and its loops; so the two statements follow.
use Rattle.std.proofs.Common.{◌≡◌, ◌≢◌, ℕ, ◌⊎◌, inl, inr, ◌+◌, ◌*◌, ◌/◌, ◌%◌, ◌<◌, ◌≤◌, ◌∙◌, List, [], ◌∷◌, ◌++◌, sym, ap, subst, arith, refl, false, not, length, map, eq-eqb, eqb-true, IsTrue}
use Rattle.std.specs.Prelude.{slice_index, nat_eq}
use Rattle.std.specs.List.{filter, range_with_len}
use Rattle.std.proofs.lemmas.Bool.{both_ways, cases_eq, ne_eqb}
use Rattle.std.proofs.lemmas.Bool.Decides.{nat_tests}
use Rattle.kh_types.specs.Acceptance.{accepted}
use Rattle.kh_types.specs.Bits.{bit}
use Rattle.kh_types.specs.Classes.{classes_of, class_count, Respects, AreBelow}
use Rattle.kh_types.specs.Code.{Code, arc_count}
use Rattle.kh_types.specs.Components.{passes_of}
use Rattle.kh_types.specs.Circles.{smoothings_of, circle_count}
use Rattle.kh_types.specs.Darts.{HasArcsTwice}
use Rattle.kh_types.proofs.AcceptedLemmas.{HasArcsTwice-accepted}
use Rattle.kh_types.proofs.ClassLemmas.{classes-finest}
use Rattle.kh_types.proofs.ClassCounts.{class_count-wider, class_count-circles}
use Rattle.kh_types.proofs.JoinedClasses.{classes_of-same, class_count-apart}
use Rattle.kh_types.proofs.Lists.{AllByRecursion-append}
use Rattle.code_passes.specs.Parts.{slots_in}
use Rattle.gluing_laws.specs.Arcs.{arc_by_place}
use Rattle.kink_and_finger_laws.specs.Drops.{straight_pairs, kept_places, without_kink}
use Rattle.kink_and_finger_laws.specs.Dropping.{HasKinkAt}
use Rattle.kink_and_finger_laws.specs.Pulls.{dart_in, early}
use Rattle.kink_and_finger_laws.specs.DropCircles.{joined_at, outer_pairs, through_at, closing_at, parts_circle_count}
use Rattle.kink_and_finger_laws.proofs.Smoothed.{dart_in-below, dart_in-apart}
use Rattle.kink_and_finger_laws.proofs.OldDarts.{arc_of_dart-in, place_in}
use Rattle.kink_and_finger_laws.proofs.KinkDrops.{kink-partner}
use Rattle.kink_and_finger_laws.proofs.KeptCodes.{arc_by_place-below, all-gone, gone-all, places-but}
use Rattle.kink_and_finger_laws.proofs.SmoothingPairs.{smoothings-all, smoothings-each, outer-all, outer-each, joined-below, passes-low, all_first, all_second}
use Rattle.kink_and_finger_laws.proofs.BigonJoins.{closing-joined, joined-closing, joined-through, through-joined, mark, mark-off, marked, named-own, pass-straight, straight-pass, mark-own}
use Rattle.kink_and_finger_laws.proofs.StrandCircles.{circles-dropped}

-- a state that goes through the kink has the classes of the other crossings' smoothings and the straight pairs
classes_of-through : (crossings : List (List ℕ)) (n state c p : ℕ) → HasArcsTwice crossings → HasKinkAt crossings c p
    → arc_count crossings + 1 ≤ n → bit state c ≡ through_at p
    → classes_of n (smoothings_of crossings state) ≡ classes_of n (straight_pairs crossings (nat_eq c) ++ outer_pairs crossings (nat_eq c) state)
classes_of-through crossings n state c p twice kink large is =
    let slots = slots_in crossings c in
    classes_of-same n (smoothings_of crossings state) (straight_pairs crossings (nat_eq c) ++ outer_pairs crossings (nat_eq c) state)
    (smoothings-all (λ pair. (pair.0 < n) × (pair.1 < n)) crossings state
    (λ place below. joined-below crossings n state place twice large below))
    (AllByRecursion-append (λ pair. (pair.0 < n) × (pair.1 < n)) (straight_pairs crossings (nat_eq c)) (outer_pairs crossings (nat_eq c) state)
    (all-gone (λ pair. (pair.0 < n) × (pair.1 < n)) (λ place. passes_of (slots_in crossings place)) (nat_eq c) 0 (length crossings)
    (λ place from below gone_there. passes-low crossings n place twice large (omega (arith, below))))
    (outer-all (λ pair. (pair.0 < n) × (pair.1 < n)) crossings (nat_eq c) state
    (λ place below stays. joined-below crossings n state place twice large below)))
    (λ f respects.
    AllByRecursion-append (λ pair. f pair.0 ≡ f pair.1) (straight_pairs crossings (nat_eq c)) (outer_pairs crossings (nat_eq c) state)
    (all-gone (λ pair. f pair.0 ≡ f pair.1) (λ place. passes_of (slots_in crossings place)) (nat_eq c) 0 (length crossings)
    (λ place from below gone_there.
    subst (λ (k : ℕ). Respects f (passes_of (slots_in crossings k))) (eqb-true c place gone_there)
    (let two = through-joined f slots p (bit state c) kink.slot is
    (smoothings-each (λ pair. f pair.0 ≡ f pair.1) crossings state c respects kink.below) in
    pass-straight f slots p kink.slot (ap f kink.same ∙ two.0) (sym (ap f kink.same) ∙ sym two.1))))
    (outer-all (λ pair. f pair.0 ≡ f pair.1) crossings (nat_eq c) state
    (λ place below stays. smoothings-each (λ pair. f pair.0 ≡ f pair.1) crossings state place respects below)))
    (λ f respects.
    smoothings-all (λ pair. f pair.0 ≡ f pair.1) crossings state
    (λ place below.
    elim (cases_eq c place) [
      | inl same ↦
          subst (λ (k : ℕ). Respects f (joined_at crossings state k)) same
          (let two = straight-pass f slots p kink.slot
          (gone-all (λ pair. f pair.0 ≡ f pair.1) (λ place. passes_of (slots_in crossings place)) (nat_eq c) 0 (length crossings) c
          (all_first (λ pair. f pair.0 ≡ f pair.1) (straight_pairs crossings (nat_eq c)) (outer_pairs crossings (nat_eq c) state) respects)
          (omega arith) (omega (arith, kink.below)) (eq-eqb c c refl)) in
          joined-through f slots p (bit state c) kink.slot is (sym (ap f kink.same) ∙ two.0) (sym two.1 ∙ sym (ap f kink.same)))
      | inr apart ↦
          outer-each (λ pair. f pair.0 ≡ f pair.1) crossings (nat_eq c) state place
          (all_second (λ pair. f pair.0 ≡ f pair.1) (straight_pairs crossings (nat_eq c)) (outer_pairs crossings (nat_eq c) state) respects)
          below (ne_eqb c place apart)
    ]))

-- the arc of a kink stands at its two slots alone
pub kink-own : (crossings : List (List ℕ)) (c p place slot : ℕ) → HasArcsTwice crossings → HasKinkAt crossings c p → place < length crossings
    → slot < 4 → arc_by_place crossings place slot ≡ arc_by_place crossings c p
    → (4 * place + slot ≡ dart_in c p) ⊎ (4 * place + slot ≡ dart_in c (p + 1))
kink-own crossings c p place slot twice kink below slot_below same =
    let e : p % 4 ≡ p = omega (arith, kink.slot) in
    elim (named-own crossings (dart_in c p) place slot twice (dart_in-below (length crossings) c p kink.below) below slot_below
    (same ∙ sym (arc_of_dart-in crossings c p ∙ ap (arc_by_place crossings c) e))) [
      | inl own ↦ inl own
      | inr other ↦ inr (other ∙ kink-partner crossings c p twice kink)
    ]

pub class_count-closing : (crossings : List (List ℕ)) (n state c p : ℕ) → HasArcsTwice crossings → HasKinkAt crossings c p
    → arc_count crossings + 1 ≤ n → bit state c ≡ closing_at p
    → class_count (classes_of n (smoothings_of crossings state))
    ≡ class_count (classes_of n (straight_pairs crossings (nat_eq c) ++ outer_pairs crossings (nat_eq c) state)) + 1
class_count-closing crossings n state c p twice kink large is =
    let slots = slots_in crossings c in
    let v = arc_by_place crossings c p in
    let x = arc_by_place crossings c ((p + 2) % 4) in
    let y = arc_by_place crossings c ((p + 3) % 4) in
    let outer = outer_pairs crossings (nat_eq c) state in
    let straight = straight_pairs crossings (nat_eq c) in
    let low : (slot : ℕ) → slot < 4 → arc_by_place crossings c slot < n =
    λ slot below. omega (arith, large, arc_by_place-below crossings c slot twice kink.below below) in
    let v_low = low p kink.slot in
    let x_low = low ((p + 2) % 4) (omega arith) in
    let y_low = low ((p + 3) % 4) (omega arith) in
    let outer_low : AreBelow n (outer_pairs crossings (nat_eq c) state) =
    outer-all (λ pair. (pair.0 < n) × (pair.1 < n)) crossings (nat_eq c) state
    (λ place below stays. joined-below crossings n state place twice large below) in
    let more_low : AreBelow n (outer_pairs crossings (nat_eq c) state ++ (x, y) ∷ []) =
    AllByRecursion-append (λ pair. (pair.0 < n) × (pair.1 < n)) outer ((x, y) ∷ []) outer_low ((x_low, y_low), tt) in
    let last_low : AreBelow n ((outer_pairs crossings (nat_eq c) state ++ (x, y) ∷ []) ++ (v, x) ∷ []) =
    AllByRecursion-append (λ pair. (pair.0 < n) × (pair.1 < n)) (outer ++ (x, y) ∷ []) ((v, x) ∷ []) more_low ((v_low, x_low), tt) in
    let straight_low : AreBelow n (straight_pairs crossings (nat_eq c)) =
    all-gone (λ pair. (pair.0 < n) × (pair.1 < n)) (λ place. passes_of (slots_in crossings place)) (nat_eq c) 0 (length crossings)
    (λ place from below gone_there. passes-low crossings n place twice large (omega (arith, below))) in
    let first : classes_of n (smoothings_of crossings state) ≡ classes_of n (outer_pairs crossings (nat_eq c) state ++ (x, y) ∷ []) =
    classes_of-same n (smoothings_of crossings state) (outer ++ (x, y) ∷ [])
    (smoothings-all (λ pair. (pair.0 < n) × (pair.1 < n)) crossings state
    (λ place below. joined-below crossings n state place twice large below)) more_low
    (λ f respects.
    AllByRecursion-append (λ pair. f pair.0 ≡ f pair.1) outer ((x, y) ∷ [])
    (outer-all (λ pair. f pair.0 ≡ f pair.1) crossings (nat_eq c) state
    (λ place below stays. smoothings-each (λ pair. f pair.0 ≡ f pair.1) crossings state place respects below)) (
      (closing-joined f slots p (bit state c) kink.slot is
          (smoothings-each (λ pair. f pair.0 ≡ f pair.1) crossings state c respects kink.below)).1,
      tt,
    ))
    (λ f respects.
    smoothings-all (λ pair. f pair.0 ≡ f pair.1) crossings state
    (λ place below.
    elim (cases_eq c place) [
      | inl same ↦
          subst (λ (k : ℕ). Respects f (joined_at crossings state k)) same
          (joined-closing f slots p (bit state c) kink.slot is (ap f kink.same)
          (all_second (λ pair. f pair.0 ≡ f pair.1) outer ((x, y) ∷ []) respects).0)
      | inr apart ↦
          outer-each (λ pair. f pair.0 ≡ f pair.1) crossings (nat_eq c) state place
          (all_first (λ pair. f pair.0 ≡ f pair.1) outer ((x, y) ∷ []) respects) below (ne_eqb c place apart)
    ])) in
    let second : classes_of n (straight_pairs crossings (nat_eq c) ++ outer_pairs crossings (nat_eq c) state)
    ≡ classes_of n ((outer_pairs crossings (nat_eq c) state ++ (x, y) ∷ []) ++ (v, x) ∷ []) =
    classes_of-same n (straight ++ outer) ((outer ++ (x, y) ∷ []) ++ (v, x) ∷ [])
    (AllByRecursion-append (λ pair. (pair.0 < n) × (pair.1 < n)) straight outer straight_low outer_low) last_low
    (λ f respects.
    let here = straight-pass f slots p kink.slot
    (gone-all (λ pair. f pair.0 ≡ f pair.1) (λ place. passes_of (slots_in crossings place)) (nat_eq c) 0 (length crossings) c
    (all_first (λ pair. f pair.0 ≡ f pair.1) straight outer respects) (omega arith) (omega (arith, kink.below)) (eq-eqb c c refl)) in
    AllByRecursion-append (λ pair. f pair.0 ≡ f pair.1) (outer ++ (x, y) ∷ []) ((v, x) ∷ [])
    (AllByRecursion-append (λ pair. f pair.0 ≡ f pair.1) outer ((x, y) ∷ []) (all_second (λ pair. f pair.0 ≡ f pair.1) straight outer respects)
    (sym here.0 ∙ ap f kink.same ∙ here.1, tt)) (here.0, tt))
    (λ f respects.
    let front = all_first (λ pair. f pair.0 ≡ f pair.1) (outer ++ (x, y) ∷ []) ((v, x) ∷ []) respects in
    let last = (all_second (λ pair. f pair.0 ≡ f pair.1) (outer ++ (x, y) ∷ []) ((v, x) ∷ []) respects).0 in
    let middle = (all_second (λ pair. f pair.0 ≡ f pair.1) outer ((x, y) ∷ []) front).0 in
    AllByRecursion-append (λ pair. f pair.0 ≡ f pair.1) straight outer
    (all-gone (λ pair. f pair.0 ≡ f pair.1) (λ place. passes_of (slots_in crossings place)) (nat_eq c) 0 (length crossings)
    (λ place from below gone_there.
    subst (λ (k : ℕ). Respects f (passes_of (slots_in crossings k))) (eqb-true c place gone_there)
    (pass-straight f slots p kink.slot last (sym (ap f kink.same) ∙ last ∙ middle))))
    (all_first (λ pair. f pair.0 ≡ f pair.1) outer ((x, y) ∷ []) front)) in
    let off : (place slot : ℕ) → place < length crossings → slot < 4 → 4 * place + slot ≢ dart_in c p → 4 * place + slot ≢ dart_in c (p + 1)
    → mark v (arc_by_place crossings place slot) ≡ 0 =
    λ place slot below slot_below one two.
    mark-off v (arc_by_place crossings place slot)
    (
    (λ same. elim (kink-own crossings c p place slot twice kink below slot_below same) [ inl own ↦ one own | inr own ↦ two own ])) in
    let apart4 = dart_in-apart c p in
    let x_off : mark v x ≡ 0 =
    off c ((p + 2) % 4) kink.below (omega arith) (λ same. apart4.5 (sym same)) (λ same. apart4.0 (sym same)) in
    let y_off : mark v y ≡ 0 = off c ((p + 3) % 4) kink.below (omega arith) apart4.1 apart4.2 in
    let mark_respects : Respects (λ z. mark v z) (outer_pairs crossings (nat_eq c) state ++ (x, y) ∷ []) =
    AllByRecursion-append (λ pair. mark v pair.0 ≡ mark v pair.1) outer ((x, y) ∷ [])
    (outer-all (λ pair. mark v pair.0 ≡ mark v pair.1) crossings (nat_eq c) state
    (λ place below stays.
    let away : (r slot : ℕ) → slot < 4 → 4 * place + slot ≢ dart_in c r =
    λ r slot slot_below same. not_gone c place stays (block_of place slot slot_below ∙ ap (λ z. z / 4) same ∙ place_in c r) in
    let at : (slot : ℕ) → slot < 4 → mark v (arc_by_place crossings place slot) ≡ 0 =
    λ slot slot_below. off place slot below slot_below (away p slot slot_below) (away (p + 1) slot slot_below) in
    marked (λ z. mark v z) (bit state place) (slots_in crossings place) at))
    (x_off ∙ sym y_off, tt) in
    let v_x : slice_index (classes_of n (outer_pairs crossings (nat_eq c) state ++ (x, y) ∷ [])) v
    ≢ slice_index (classes_of n (outer_pairs crossings (nat_eq c) state ++ (x, y) ∷ [])) x =
    λ same.
    let found = classes-finest (λ z. mark v z) n (outer ++ (x, y) ∷ []) mark_respects more_low v x v_low x_low same in
    let one_zero : 1 ≡ 0 = sym (mark-own v) ∙ found ∙ x_off in
    omega (arith, one_zero) in
    ap class_count first ∙ class_count-apart n (outer ++ (x, y) ∷ []) (v, x) more_low v_low x_low v_x
    ∙ ap (λ cs. class_count cs + 1) (sym second)
  where
    block_of : (place slot : ℕ) → slot < 4 → place ≡ (4 * place + slot) / 4
    block_of place slot below = omega (arith, below)

    not_gone : (c place : ℕ) → nat_eq c place ≡ false → place ≡ c → ⊥
    not_gone c place stays same = both_ways (nat_eq c place) stays (eq-eqb c place (sym same))

-- a state that goes through the kink has as many circles as the same state without it, and a state that closes it has one more

pub before : (code : Code) (state : ℕ) → HasArcsTwice code.crossings
    → circle_count code state + 1 ≡ class_count (classes_of (arc_count code.crossings + 1) (smoothings_of code.crossings state)) + code.loops
before code state twice =
    let low : (n : ℕ) → arc_count code.crossings + 1 ≤ n → AreBelow n (smoothings_of code.crossings state) =
    λ n large. smoothings-all (λ pair. (pair.0 < n) × (pair.1 < n)) code.crossings state
    (λ place below. joined-below code.crossings n state place twice large below) in
    let n = arc_count code.crossings + 1 in
    let e : arc_count code.crossings + code.loops + 1 ≡ arc_count code.crossings + 1 + code.loops = omega arith in
    sym (class_count-circles code state (low (arc_count code.crossings + code.loops + 1) (omega arith)))
    ∙ ap (λ m. class_count (classes_of m (smoothings_of code.crossings state))) e
    ∙ class_count-wider (arc_count code.crossings + 1) code.loops (smoothings_of code.crossings state) (low n (omega arith))

pub kept_are : (code : Code) (c k : ℕ) → length code.crossings ≡ k + 1 → c ≤ k
    → kept_places code.crossings (nat_eq c) ≡ map (early c k) (range_with_len 0 k)
kept_are code c k size within = ap (λ n. filter (λ x. not (nat_eq c x)) (range_with_len 0 n)) size ∙ places-but c k within

pub early-low : (n c k i : ℕ) → n ≡ k + 1 → c ≤ k → i < k → early c k i < n
early-low n c k i size within below = grind (arith, nat_tests)

pub circles-through : (code : Code) (c p k state new : ℕ) → IsTrue (accepted code) → HasKinkAt code.crossings c p
    → length code.crossings ≡ k + 1 → ((i : ℕ) → i < k → bit new i ≡ bit state (early c k i)) → bit state c ≡ through_at p
    → circle_count code state ≡ parts_circle_count (arc_count code.crossings + 1) (without_kink code c) new
circles-through code c p k state new is kink size agree through =
    let twice = HasArcsTwice-accepted code is in
    let within : c ≤ k = omega (arith, kink.below, size) in
    let left = circles-dropped code (nat_eq c) (early c k) k state new twice (kept_are code c k size within)
    (λ i below. early-low (length code.crossings) c k i size within below) agree in
    let same = classes_of-through code.crossings (arc_count code.crossings + 1) state c p twice kink (omega arith) through in
    omega (arith, left, before code state twice, ap class_count same)

pub circles-closing : (code : Code) (c p k state new : ℕ) → IsTrue (accepted code) → HasKinkAt code.crossings c p
    → length code.crossings ≡ k + 1 → ((i : ℕ) → i < k → bit new i ≡ bit state (early c k i)) → bit state c ≡ closing_at p
    → circle_count code state ≡ parts_circle_count (arc_count code.crossings + 1) (without_kink code c) new + 1
circles-closing code c p k state new is kink size agree closes =
    let twice = HasArcsTwice-accepted code is in
    let within : c ≤ k = omega (arith, kink.below, size) in
    let left = circles-dropped code (nat_eq c) (early c k) k state new twice (kept_are code c k size within)
    (λ i below. early-low (length code.crossings) c k i size within below) agree in
    let more = class_count-closing code.crossings (arc_count code.crossings + 1) state c p twice kink (omega arith) closes in
    omega (arith, left, before code state twice, more)
