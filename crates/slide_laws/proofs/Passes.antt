-- A slide keeps the passes: each pass of the new code joins the arcs that a pass of the old code joins, in the same direction. So the
-- components stay, arc by arc.
use Rattle.std.proofs.lemmas.Bool.Decides.{nat_tests}
use Rattle.std.proofs.Common.{◌≡◌, ℕ, zero, suc, ◌+◌, ◌-◌, ◌*◌, ◌/◌, ◌%◌, ◌<◌, ◌∙◌, List, [], ◌∷◌, length, get_or, sym, ap, ap₂, subst, arith}
use Rattle.std.specs.Prelude.{slice_index_or, IsTrue}
use Rattle.std.specs.List.{AllByRecursion, flat_map}
use Rattle.kh_types.specs.Acceptance.{accepted}
use Rattle.kh_types.specs.Classes.{classes_of, Respects, AreBelow}
use Rattle.kh_types.specs.Code.{Code, arc_in, arc_count, slots_of}
use Rattle.kh_types.specs.Components.{passes_of, components_of, component_count}
use Rattle.kh_types.specs.Darts.{dart_at, partner_at, HasArcsTwice}
use Rattle.kh_types.specs.Directions.{is_positive}
use Rattle.kh_types.proofs.JoinedClasses.{classes_of-same}
use Rattle.kh_types.proofs.CircleBound.{ArcsBelow-slots, passes_of-below}
use Rattle.kh_types.proofs.PassPairs.{passes-all}
use Rattle.kh_types.proofs.Ranges.{below_four}
use Rattle.slide_laws.specs.Slid.{on, source, slid}
use Rattle.slide_laws.specs.SlideCodes.{is_head_with, KeepsPass}
use Rattle.slide_laws.proofs.Corners.{at_places, IsOutside, AreApart, AreApart-rotated, on-crossing, on-on, on-zero, on-round, on-below, source-x, source-rotated, source-outside, source-source, source-below}
use Rattle.slide_laws.proofs.Sides.{HasSides}
use Rattle.slide_laws.proofs.SlidArcs.{length-slid, arc_of_dart-slid, HasArcsTwice-slid}
use Rattle.slide_laws.proofs.SlidHeads.{kind-source, IsKind-heads}
use Rattle.gluing_laws.specs.Codes.{arc_of_dart}

pub round : (place a b : ℕ) → a ≡ b + 4 → on place a ≡ on place b
round place a b is = ap (λ k. on place k) is ∙ on-round place b

source-behind_x : (x y z : ℕ) → (j : ℕ) → j < 4 → source x y z (on (on x j) 2) ≡ on (source x y z (on x j)) 2
source-behind_x x y z =
    let from = source x y z in
    below_four (λ j. from (on (on x j) 2) ≡ on (from (on x j)) 2)
    (ap from (on-on x 0 2) ∙ source-x x y z 2 (omega arith) ∙ sym (round y 5 1 (omega arith)) ∙ sym (on-on y 3 2)
    ∙ sym (ap (λ k. on k 2) (source-x x y z 0 (omega arith))))
    (ap from (on-on x 1 2) ∙ source-x x y z 3 (omega arith) ∙ sym (on-zero z) ∙ sym (round z 4 0 (omega arith)) ∙ sym (on-on z 2 2)
    ∙ sym (ap (λ k. on k 2) (source-x x y z 1 (omega arith))))
    (ap from (on-on x 2 2 ∙ round x 4 0 (omega arith)) ∙ source-x x y z 0 (omega arith) ∙ sym (on-on y 1 2)
    ∙ sym (ap (λ k. on k 2) (source-x x y z 2 (omega arith))))
    (ap from (on-on x 3 2 ∙ round x 5 1 (omega arith)) ∙ source-x x y z 1 (omega arith)
    ∙ sym (ap (λ k. on k 2) (source-x x y z 3 (omega arith))))

pub source-behind : (x y z : ℕ) → AreApart x y z → (place : ℕ) → source x y z (on place 2) ≡ on (source x y z place) 2
source-behind x y z apart =
    let second = AreApart-rotated x y z apart in
    let once = source-rotated x y z apart in
    let twice = once ∙ source-rotated y z x second in
    at_places x y z (λ place. source x y z (on place 2) ≡ on (source x y z place) 2)
    (source-behind_x x y z)
    (λ j below. ap (λ f. f (on (on y j) 2)) once ∙ source-behind_x y z x j below ∙ sym (ap (λ f. on (f (on y j)) 2) once))
    (λ j below. ap (λ f. f (on (on z j) 2)) twice ∙ source-behind_x z x y j below ∙ sym (ap (λ f. on (f (on z j)) 2) twice))
    (λ place outside.
    let behind : IsOutside x y z (on place 2) =
    record {
      not_x = λ is. outside.not_x (sym (on-crossing place 2) ∙ is);
      not_y = λ is. outside.not_y (sym (on-crossing place 2) ∙ is);
      not_z = λ is. outside.not_z (sym (on-crossing place 2) ∙ is);
    } in
    source-outside x y z (on place 2) behind ∙ sym (ap (λ k. on k 2) (source-outside x y z place outside)))

-- passes by darts

at_crossing : (P : ℕ × ℕ → Type 0) (crossings : List (List ℕ)) → AllByRecursion P (flat_map passes_of crossings) → (k : ℕ)
    → k < length crossings → AllByRecursion P (passes_of (get_or crossings k []))
at_crossing P [] holds k below = absurd (omega (arith, below))
at_crossing P (slots ∷ rest) holds zero below = (holds.0, (holds.1.0, tt))
at_crossing P (slots ∷ rest) holds (suc k) below = at_crossing P rest holds.1.1 k (omega (arith, below))

pub arc-behind : (crossings : List (List ℕ)) (place : ℕ)
    → arc_of_dart crossings (on place 2) ≡ arc_in (slice_index_or crossings (place / 4) []) ((place % 4 + 2) % 4)
arc-behind crossings place = grind (arith, nat_tests)

pub respects-behind : (f : ℕ → ℕ) (crossings : List (List ℕ)) → Respects f (flat_map passes_of crossings) → (place : ℕ)
    → place < 4 * length crossings → f (arc_of_dart crossings place) ≡ f (arc_of_dart crossings (on place 2))
respects-behind f crossings respects place below =
    let slots = slice_index_or crossings (place / 4) [] in
    let pairs = at_crossing (λ pair. f pair.0 ≡ f pair.1) crossings respects (place / 4) (omega (arith, below)) in
    below_four (λ slot. f (arc_in slots slot) ≡ f (arc_in slots ((slot + 2) % 4))) pairs.0 pairs.1.0 (sym pairs.0) (sym pairs.1.0)
    (place % 4) (omega arith)
    ∙ ap f (sym (arc-behind crossings place))

respects-passes : (f : ℕ → ℕ) (crossings : List (List ℕ))
    → ((place : ℕ) → place < 4 * length crossings → f (arc_of_dart crossings place) ≡ f (arc_of_dart crossings (on place 2)))
    → Respects f (flat_map passes_of crossings)
respects-passes f crossings behind =
    passes-all (λ pair. f pair.0 ≡ f pair.1) crossings
    (λ crossing is.
    let slots = slots_of crossings crossing in
    let there = λ (slot : ℕ) (below : slot < 4).
    let place = 4 * (crossing - 1) + slot in
    let here : place / 4 ≡ crossing - 1 = omega (arith, below) in
    let same : place % 4 ≡ slot = omega (arith, below) in
    sym (ap₂ (λ k s. f (arc_in (slice_index_or crossings k []) s)) here same)
    ∙ behind place (omega (arith, below, is.positive, is.within)) ∙ ap f (arc-behind crossings place)
    ∙ ap₂ (λ k s. f (arc_in (slice_index_or crossings k []) ((s + 2) % 4))) here same in
    (there 0 (omega arith), (there 1 (omega arith), tt)))

pub passes-arcs : (crossings : List (List ℕ)) → HasArcsTwice crossings → AreBelow (arc_count crossings + 1) (flat_map passes_of crossings)
passes-arcs crossings twice = grind (arith, nat_tests, passes_of-below, ArcsBelow-slots)

-- so the components are the same
pub components_of-slid : (crossings : List (List ℕ)) (x y z : ℕ) → HasArcsTwice crossings
    → HasSides (length crossings) (partner_at crossings) x y z → components_of (slid crossings x y z) ≡ components_of crossings
components_of-slid crossings x y z twice sides =
    let n = length crossings in
    let new = slid crossings x y z in
    let size = length-slid crossings x y z in
    let back = source-source x y z sides.apart in
    let behind = source-behind x y z sides.apart in
    let below = source-below n x y z sides.apart sides.x_below sides.y_below sides.z_below in
    let new_below : AreBelow (arc_count crossings + 1) (flat_map passes_of new) =
    subst (λ (k : ℕ). AreBelow (2 * k + 1) (flat_map passes_of new)) size
    (passes-arcs new (HasArcsTwice-slid crossings x y z twice sides)) in
    let arc = arc_of_dart crossings in
    let moved = λ (place : ℕ) (within : place < 4 * n). arc_of_dart-slid crossings x y z place within in
    ap (λ k. classes_of (2 * k + 1) (flat_map passes_of new)) size
    ∙ classes_of-same (arc_count crossings + 1) (flat_map passes_of new) (flat_map passes_of crossings) new_below (passes-arcs crossings twice)
    (λ f respects. respects-passes f crossings (λ place within.
    let to = source x y z place in
    let to_below = below place within in
    let onward = respects-behind f new respects to (subst (λ (k : ℕ). to < 4 * k) (sym size) to_below) in
    sym (ap f (moved to to_below ∙ ap arc (back place))) ∙ onward
    ∙ ap f (moved (on to 2) (on-below n to 2 to_below) ∙ ap arc (behind to ∙ ap (λ k. on k 2) (back place)))))
    (λ f respects. respects-passes f new (λ place new_within.
    let within : place < 4 * n = subst (λ (k : ℕ). place < 4 * k) size new_within in
    ap f (moved place within) ∙ respects-behind f crossings respects (source x y z place) (below place within)
    ∙ sym (ap f (moved (on place 2) (on-below n place 2 within) ∙ ap arc (behind place)))))

pub component_count-slid : (crossings : List (List ℕ)) (x y z : ℕ) → HasArcsTwice crossings
    → HasSides (length crossings) (partner_at crossings) x y z → component_count (slid crossings x y z) ≡ component_count crossings
component_count-slid crossings x y z twice sides =
    grind (arith, nat_tests, components_of-slid crossings x y z twice sides, length-slid crossings x y z)

-- each pass is one of the old code
pub KeepsPass-slid : (code : Code) (x y z : ℕ) → IsTrue (accepted code)
    → HasSides (length code.crossings) (partner_at code.crossings) x y z → (place : ℕ) → place < 4 * length code.crossings
    → KeepsPass code.crossings (slid code.crossings x y z) (is_positive code.crossings) place (source x y z place)
KeepsPass-slid code x y z is sides place within =
    let crossings = code.crossings in
    let n = length crossings in
    let below = source-below n x y z sides.apart sides.x_below sides.y_below sides.z_below in
    record {
      below = below place within;
      first = arc_of_dart-slid crossings x y z place within;
      second = arc_of_dart-slid crossings x y z (on place 2) (on-below n place 2 within)
          ∙ ap (arc_of_dart crossings) (source-behind x y z sides.apart place);
      direction = sym
          (kind-source n (partner_at crossings) (λ k. is_head_with (is_positive crossings) (dart_at k)) x y z (IsKind-heads code is) sides place);
    }
