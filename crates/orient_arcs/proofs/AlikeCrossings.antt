-- Crossings that are alike have the same partners, faces, pieces, checkerboards and circles.
--
-- Crossings are alike where two darts have one name in the one list exactly where they have one in the other. All that acceptance looks at
-- is said by darts: the partner of a dart is the other one with its name, faces and pieces go by partners, an equation of the checkerboard
-- is one of a dart and its partner, circles are classes of darts under smoothings. So all of these agree.
use Rattle.std.proofs.lemmas.Bool.Decides.{nat_tests}
use Rattle.std.proofs.Common.{◌≡◌, ℕ, zero, suc, inl, inr, ◌+◌, ◌-◌, ◌*◌, ◌/◌, ◌%◌, ◌^◌, ◌<◌, ◌∙◌, List, [], ◌∷◌, length, map, get_or, refl, sym, ap, ap₂, subst, arith, true, ℤ}
use Rattle.std.specs.Prelude.{nat_eq, slice_index}
use Rattle.std.specs.List.{list_all, range_with_len}
use Rattle.std.proofs.lemmas.Bool.{eq-eqb, eqb-true}
use Rattle.std.proofs.lemmas.List.Elements.{All-from_get_or, recursion_from_All}
use Rattle.kh_types.specs.declared.dart.Dart.{Dart}
use Rattle.kh_types.specs.Bits.{bit, ones}
use Rattle.kh_types.specs.Code.{Code, IsArc, arcs, arc_in, place_of}
use Rattle.kh_types.specs.Darts.{dart_at, dart_place, arc_of, first_dart, partner, partner_at, IsDart, HasArcsTwice}
use Rattle.kh_types.specs.Faces.{face_pair, piece_pair, faces_of, pieces_of, open_faces, open_pieces}
use Rattle.kh_types.specs.Classes.{classes_of, class_count, AreBelow}
use Rattle.kh_types.specs.Components.{component_count}
use Rattle.kh_types.specs.Circles.{smoothings_of, circle_count}
use Rattle.kh_types.specs.Checkerboard.{solves_at, IsCheckerboard}
use Rattle.kh_types.specs.Directions.{plus_count, minus_count}
use Rattle.kh_types.specs.StateSum.{int_sum, state_term, state_sum, term_of}
use Rattle.kh_types.proofs.Ranges.{find-map, map-range_agree}
use Rattle.kh_types.proofs.RangeCounts.{list_all-at, list_all-each}
use Rattle.kh_types.proofs.JoinedClasses.{slice_index-range}
use Rattle.kh_types.proofs.ClassCounts.{class_count-circles, class_count-components}
use Rattle.kh_types.proofs.CircleBound.{ArcsBelow, ArcsBelow-slots, smoothings_of-below, passes_of-below}
use Rattle.kh_types.proofs.DartPairs.{dart_at-place, dart_place-below, IsDart-at, IsDartOf-first_dart, first_dart_or_partner, partner-partner}
use Rattle.orient_arcs.specs.Alike.{HasNamesBelow}
use Rattle.gluing_laws.specs.Glue.{renamed, Places, JoinAlike}
use Rattle.code_passes.specs.Parts.{Parts, ArePaired, passes_through}
use Rattle.orient_arcs.specs.Renumbered.{order_of, number_in, renumber}
use Rattle.orient_arcs.proofs.Bridge.{length-renumbered, slot-renumbered, slot-head, number-once}
use Rattle.gluing_laws.proofs.Glued.{class_count-glued_parts}
use Rattle.gluing_laws.specs.Codes.{arc_of_dart}
use Rattle.orient_arcs.proofs.DartSmoothings.{dart_passes, passes_of-darts, dart_passes-below}
use Rattle.kh_types.proofs.IntSums.{int_sum-alike}
use Rattle.kh_types.proofs.Searches.{find-range_agree}
use Rattle.gluing_laws.proofs.DartPairs.{dart_smoothings, arc_of-dart}
use Rattle.gluing_laws.proofs.CodeCircles.{dart_smoothings-below, smoothings_of-darts}
use Rattle.gluing_laws.specs.Alike.{AreAlike}
use Rattle.gluing_laws.proofs.Renamed.{class_count-range}

pub AreAlike-back : (crossings others : List (List ℕ)) → AreAlike crossings others → AreAlike others crossings
AreAlike-back crossings others alike = grind (arith, nat_tests)

pub AreAlike-then : (crossings others third : List (List ℕ)) → AreAlike crossings others → AreAlike others third → AreAlike crossings third
AreAlike-then crossings others third first second = grind (arith, nat_tests)

pub same-test : (x y z w : ℕ) → (x ≡ y → z ≡ w) → (z ≡ w → x ≡ y) → nat_eq z w ≡ nat_eq x y
same-test x y z w onward back = grind (arith, nat_tests)

module _ (crossings others : List (List ℕ)) (alike : AreAlike crossings others) where
  pub partner-alike : (place : ℕ) → place < 4 * length crossings → partner others (dart_at place) ≡ partner crossings (dart_at place)
  partner-alike place below = grind (arith, nat_tests, find-map, find-range_agree, same-test)

  pub partner_at-alike : (place : ℕ) → place < 4 * length crossings → partner_at others place ≡ partner_at crossings place
  partner_at-alike place below = ap dart_place (partner-alike place below)

  pub faces-alike : faces_of others ≡ faces_of crossings
  faces-alike =
      ap (λ n. open_faces n (partner_at others)) alike.size
      ∙ ap (classes_of (4 * length crossings))
      (map-range_agree (face_pair (partner_at others)) (face_pair (partner_at crossings)) 0 (4 * length crossings)
      (λ k from below. paired k (partner_at-alike k (omega (arith, below)))))
    where
      paired : (k : ℕ) → partner_at others k ≡ partner_at crossings k → face_pair (partner_at others) k ≡ face_pair (partner_at crossings) k
      paired k same = ap (λ (p : ℕ). face_pair (λ x. p) k) same

  pub pieces-alike : pieces_of others ≡ pieces_of crossings
  pieces-alike =
      ap (λ n. open_pieces n (partner_at others)) alike.size
      ∙ ap (classes_of (length crossings))
      (map-range_agree (piece_pair (partner_at others)) (piece_pair (partner_at crossings)) 0 (4 * length crossings)
      (λ k from below. paired k (partner_at-alike k (omega (arith, below)))))
    where
      paired : (k : ℕ) → partner_at others k ≡ partner_at crossings k → piece_pair (partner_at others) k ≡ piece_pair (partner_at crossings) k
      paired k same = ap (λ (p : ℕ). piece_pair (λ x. p) k) same

  -- the equation of a dart and its partner
  abbrev Odd : ℕ → Dart → Dart → Type 0
  Odd choice dart other =
      (bit choice (place_of dart.crossing) + (bit choice (place_of other.crossing) + (dart.slot + other.slot))) % 2 ≡ 1

  Odd-back : (choice : ℕ) (dart other : Dart) → Odd choice dart other → Odd choice other dart
  Odd-back choice dart other odd = omega arith

  -- a choice solves it at each dart
  solved-at : HasArcsTwice crossings → (choice : ℕ) → list_all (solves_at crossings choice) (arcs crossings) ≡ true
      → (dart : Dart) → IsDart crossings dart → Odd choice dart (partner crossings dart)
  solved-at twice choice solves dart is =
      let arc = arc_of crossings dart in
      let is_arc = twice.slots dart is in
      let first = first_dart crossings arc in
      let first_is = IsDartOf-first_dart crossings arc twice is_arc in
      let odd : Odd choice first (partner crossings first) =
      eqb-true _ 1 (list_all-at (solves_at crossings choice) 1 (2 * length crossings) arc solves is_arc.positive (omega (arith, is_arc.within))) in
      elim (first_dart_or_partner crossings arc dart twice is_arc (record { within = is; on_arc = refl })) [
        | inl is_first ↦ subst (λ (d : Dart). Odd choice d (partner crossings d)) (sym is_first) odd
        | inr is_second ↦
            subst (λ (d : Dart). Odd choice d (partner crossings d)) (sym is_second)
            (subst (λ (d : Dart). Odd choice (partner crossings first) d) (sym (partner-partner crossings first twice first_is.within))
            (Odd-back choice first (partner crossings first) odd))
      ]

  pub IsCheckerboard-alike : HasArcsTwice crossings → HasArcsTwice others → IsCheckerboard crossings → IsCheckerboard others
  IsCheckerboard-alike twice others_twice board = record {
    choice = board.choice;
    below = subst (λ (n : ℕ). board.choice < 2 ^ n) (sym alike.size) board.below;
    solves = list_all-each (solves_at others board.choice) 1 (2 * length others)
        (λ arc from below.
        let is_arc : IsArc others arc = record { positive = from; within = omega (arith, below) } in
        let first = first_dart others arc in
        let first_is = IsDartOf-first_dart others arc others_twice is_arc in
        let place = dart_place first in
        let place_below : place < 4 * length crossings = omega (arith, dart_place-below others first first_is.within, alike.size) in
        let at_place = dart_at-place others first first_is.within in
        let within : IsDart crossings first = subst (λ (d : Dart). IsDart crossings d) at_place (IsDart-at crossings place place_below) in
        let same : partner others first ≡ partner crossings first =
        ap (partner others) (sym at_place) ∙ partner-alike place place_below ∙ ap (partner crossings) at_place in
        eq-eqb _ 1
        (subst (λ (d : Dart). Odd board.choice first d) (sym same) (solved-at twice board.choice board.solves first within)));
  }

-- circles

-- names below a number, by places
pub ArcsBelow-places : (n : ℕ) (crossings : List (List ℕ)) → HasNamesBelow n crossings → ArcsBelow n crossings
ArcsBelow-places n crossings below =
    let Below : List ℕ → Type 0 = λ slots. (slot : ℕ) → slot < 4 → arc_in slots slot < n in
    recursion_from_All Below crossings
    (All-from_get_or Below crossings []
    (λ place within slot slot_below.
    let e : (4 * place + slot) / 4 + 1 - 1 ≡ place = omega (arith, slot_below) in
    let r : (4 * place + slot) % 4 ≡ slot = omega (arith, slot_below) in
    let at = below (4 * place + slot) (omega (arith, within, slot_below)) in
    let same : arc_in (get_or crossings place []) slot ≡ arc_of crossings (dart_at (4 * place + slot)) =
    ap₂ (λ k l. arc_in (get_or crossings k []) l) (sym e) (sym r) in
    omega (arith, same, at)))

arcs-below-at : (n : ℕ) (crossings : List (List ℕ)) → ArcsBelow n crossings → (place slot : ℕ) → place < length crossings → slot < 4
    → arc_in (get_or crossings place []) slot < n
arcs-below-at n [] below place slot place_below slot_below = absurd (omega (arith, place_below))
arcs-below-at n (slots ∷ crossings) below zero slot place_below slot_below = below.0 slot slot_below
arcs-below-at n (slots ∷ crossings) below (suc place) slot place_below slot_below =
    arcs-below-at n crossings below.1 place slot (omega (arith, place_below)) slot_below

-- whatever joins darts makes as many classes of names
pub class_count-darts : (m n : ℕ) (crossings others : List (List ℕ)) → AreAlike crossings others → ArcsBelow m crossings
    → ArcsBelow n others → (outer : List (ℕ × ℕ)) → AreBelow (4 * length crossings) outer
    → class_count (classes_of n (renamed (arc_of_dart others) outer)) + m
    ≡ class_count (classes_of m (renamed (arc_of_dart crossings) outer)) + n
class_count-darts m n crossings others alike below others_below outer outer_below =
    let count = length crossings in
    let f = arc_of_dart crossings in
    let g = arc_of_dart others in
    let size = alike.size in
    let f_places : Places f (4 * count) m = λ dart dart_below. arcs-below-at m crossings below (dart / 4) (dart % 4) (omega arith) (omega arith) in
    let g_places : Places g (4 * count) n =
    λ dart dart_below. arcs-below-at n others others_below (dart / 4) (dart % 4) (omega (arith, dart_below, size)) (omega arith) in
    let joins : JoinAlike (4 * count) f g (range_with_len 0 m) (range_with_len 0 n) = record {
      onward = λ x y x_below y_below same.
          ap (slice_index (range_with_len 0 n))
          (sym (arc_of-dart others x)
          ∙ alike.onward x y x_below y_below
          (arc_of-dart crossings x ∙ sym (slice_index-range m (f x) (f_places x x_below)) ∙ same
          ∙ slice_index-range m (f y) (f_places y y_below) ∙ sym (arc_of-dart crossings y))
          ∙ arc_of-dart others y);
      back = λ x y x_below y_below same.
          ap (slice_index (range_with_len 0 m))
          (sym (arc_of-dart crossings x)
          ∙ alike.back x y x_below y_below
          (arc_of-dart others x ∙ sym (slice_index-range n (g x) (g_places x x_below)) ∙ same
          ∙ slice_index-range n (g y) (g_places y y_below) ∙ sym (arc_of-dart others y))
          ∙ arc_of-dart crossings y);
    } in
    let law = class_count-glued_parts (4 * count) m n f g outer [] [] outer_below tt tt f_places g_places joins in
    omega (arith, law, class_count-range m, class_count-range n)

pub class_count-alike : (m n : ℕ) (crossings others : List (List ℕ)) → AreAlike crossings others → ArcsBelow m crossings
    → ArcsBelow n others → (state : ℕ)
    → class_count (classes_of n (smoothings_of others state)) + m ≡ class_count (classes_of m (smoothings_of crossings state)) + n
class_count-alike m n crossings others alike below others_below state =
    grind (arith, nat_tests, class_count-darts, dart_smoothings, dart_smoothings-below, smoothings_of-darts)

-- components
pub component_count-alike : (crossings others : List (List ℕ)) → AreAlike crossings others → HasArcsTwice crossings → HasArcsTwice others
    → component_count others ≡ component_count crossings
component_count-alike crossings others alike twice others_twice =
    let m = 2 * length crossings + 1 in
    let n = 2 * length others + 1 in
    let below = ArcsBelow-slots m crossings twice.slots (omega arith) in
    let others_below = ArcsBelow-slots n others others_twice.slots (omega arith) in
    let law = class_count-darts m n crossings others alike below others_below (dart_passes (length crossings))
    (dart_passes-below (length crossings)) in
    let first = ap (λ ps. class_count (classes_of m ps)) (passes_of-darts crossings) in
    let second = ap (λ ps. class_count (classes_of n ps))
    (passes_of-darts others ∙ ap (λ k. renamed (arc_of_dart others) (dart_passes k)) alike.size) in
    let first_count = class_count-components crossings (passes_of-below m crossings below) in
    let second_count = class_count-components others (passes_of-below n others others_below) in
    omega (arith, law, first, second, first_count, second_count, alike.size)

-- the names of arcs and loops, and 0
abbrev pub name_count : Code → ℕ
name_count code = 2 * length code.crossings + code.loops + 1

pub circle_count-alike : (old new : Code) → AreAlike old.crossings new.crossings → new.loops ≡ old.loops
    → ArcsBelow (name_count old) old.crossings → ArcsBelow (name_count new) new.crossings → (state : ℕ)
    → circle_count new state ≡ circle_count old state
circle_count-alike old new alike loops old_below new_below state =
    let law = class_count-alike (name_count old) (name_count new) old.crossings new.crossings alike old_below new_below state in
    let first = class_count-circles old state (smoothings_of-below (name_count old) state old.crossings old_below) in
    let second = class_count-circles new state (smoothings_of-below (name_count new) state new.crossings new_below) in
    omega (arith, law, first, second, loops, alike.size)

pub state_sum-alike : (old new : Code) → AreAlike old.crossings new.crossings → new.loops ≡ old.loops
    → ArcsBelow (name_count old) old.crossings → ArcsBelow (name_count new) new.crossings
    → plus_count new.crossings ≡ plus_count old.crossings → (exponent : ℤ) → state_sum new exponent ≡ state_sum old exponent
state_sum-alike old new alike loops old_below new_below plus exponent =
    let minus : minus_count new.crossings ≡ minus_count old.crossings =
    ap₂ (λ n p. n - p) alike.size plus in
    ap (λ k. int_sum (map (state_term new exponent) (range_with_len 0 (2 ^ k)))) alike.size
    ∙ int_sum-alike (state_term new exponent) (state_term old exponent)
    (λ state.
    ap₂ (λ p m. term_of p m exponent (ones (length new.crossings) state) (circle_count new state)) plus minus
    ∙ ap₂ (λ k c. term_of (plus_count old.crossings) (minus_count old.crossings) exponent (ones k state) c) alike.size
    (circle_count-alike old new alike loops old_below new_below state))
    (range_with_len 0 (2 ^ length old.crossings))

-- an injective renaming

pub AreAlike-renamed : (f : ℕ → ℕ) (crossings others : List (List ℕ)) → length others ≡ length crossings
    → ((place : ℕ) → place < 4 * length crossings → arc_of others (dart_at place) ≡ f (arc_of crossings (dart_at place)))
    → ((place other : ℕ) → place < 4 * length crossings → other < 4 * length crossings
    → f (arc_of crossings (dart_at place)) ≡ f (arc_of crossings (dart_at other))
    → arc_of crossings (dart_at place) ≡ arc_of crossings (dart_at other))
    → AreAlike crossings others
AreAlike-renamed f crossings others size renames apart = grind (arith, nat_tests)

pub AreAlike-renumbered : (parts : Parts) → ArePaired parts → AreAlike parts.crossings (renumber parts).crossings
AreAlike-renumbered parts paired =
    let crossings = parts.crossings in
    let number = number_in (order_of (passes_through parts)) in
    AreAlike-renamed number crossings (renumber parts).crossings (length-renumbered parts paired)
    (λ place below.
    slot-renumbered parts (place / 4 + 1) (place % 4) (record { positive = omega arith; within = omega (arith, below) }) (omega arith))
    (λ place other below other_below same.
    let head = λ (k : ℕ) (k_below : k < 4 * length crossings).
    slot-head parts paired (k / 4 + 1 - 1) (k % 4) (omega (arith, k_below)) (omega arith) in
    number-once parts paired (arc_of crossings (dart_at place)) (arc_of crossings (dart_at other)) (head place below)
    (head other other_below) same)
