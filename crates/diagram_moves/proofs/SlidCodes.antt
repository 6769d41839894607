-- The crossings after a slide become an accepted code. If each arc has one head and one tail by some signs, and the faces are
-- those of a drawing on the sphere, then the crossings, taken as crossings over names, can be numbered anew; and over their own
-- arcs they have the components, the circles and the state sum that they have as a code. All this applies after a slide: each arc
-- still has a head and a tail by the old signs, and there are as many faces as on the sphere. So at a triangle whose three slots
-- do not have one parity, the code that results is accepted, with the old number of components and loops together, the old signs
-- and the old state sum.
use Rattle.std.proofs.lemmas.Bool.Decides.{nat_tests}
use Rattle.std.proofs.Common.{◌≡◌, ℕ, ◌+◌, ◌-◌, ◌*◌, ◌/◌, ◌%◌, ◌^◌, ◌<◌, ◌∙◌, ℤ, List, length, map, sym, ap, ap₂, subst, arith, Bool, true, false, not, IsTrue}
use Rattle.std.specs.List.{count_by, flat_map, range_with_len}
use Rattle.std.proofs.lemmas.List.FromFn.{get_or-map-range_with_len, length-map-range_with_len}
use Rattle.std.proofs.lemmas.List.{length-map}
use Rattle.std.proofs.lemmas.Bool.{not_from_false, not-true}
use Rattle.gluing_laws.specs.Arcs.{enters as strand_enters}
use Rattle.code_passes.specs.Parts.{ArePaired, Parts, is_positive_at}
use Rattle.gluing_laws.specs.Codes.{arc_of_dart}
use Rattle.kink_and_finger_laws.proofs.TwoEnds.{is_head_at, ArePaired-ends, HasTwoEnds}
use Rattle.kink_and_finger_laws.specs.Planar.{IsPlanarBy}
use Rattle.orient_arcs.specs.Renumbered.{renumber}
use Rattle.kh_types.specs.Acceptance.{accepted}
use Rattle.kh_types.specs.Bits.{ones}
use Rattle.kh_types.specs.Circles.{circle_count, smoothings_of}
use Rattle.kh_types.specs.Code.{Code, IsArc, arc_count}
use Rattle.kh_types.specs.Components.{component_count, passes_of}
use Rattle.kh_types.specs.Darts.{HasArcsTwice, arc_of, dart_at, dart_place, partner_at, IsDartOf}
use Rattle.kh_types.specs.Directions.{is_positive, plus_count, minus_count, positive_at}
use Rattle.kh_types.specs.Faces.{face_count, planar_face_count}
use Rattle.kh_types.specs.StateSum.{term_of, sum_with, term_with}
use Rattle.kh_types.proofs.AcceptedLemmas.{HasArcsTwice-accepted, IsAccepted-is}
use Rattle.kh_types.proofs.CircleBound.{ArcsBelow, ArcsBelow-slots, smoothings_of-below, passes_of-below}
use Rattle.kh_types.proofs.ClassCounts.{class_count-components}
use Rattle.kh_types.proofs.DartPairs.{IsDart-at, IsOtherPlace-partner_at, IsPairing-partner_at, dart_at-place, dart_place-at, dart_place-below}
use Rattle.kh_types.proofs.Lists.{count_by-map}
use Rattle.face_walk.proofs.FewFaces.{IsPlanar-twice}
use Rattle.kink_and_finger_laws.specs.DropCircles.{parts_circle_count, parts_plus, parts_minus, parts_term, parts_sum}
use Rattle.kink_and_finger_laws.specs.DropComponents.{parts_component_count}
use Rattle.kink_and_finger_laws.proofs.OldDarts.{arc_of_dart-partner, arc_of_dart-below}
use Rattle.kink_and_finger_laws.proofs.KinkCircles.{before}
use Rattle.kink_and_finger_laws.proofs.KinkDropSums.{count-later}
use Rattle.kink_and_finger_laws.proofs.StandingNames.{IsOfNames-passes, IsOfNames-smoothings, standing-classes}
use Rattle.slide_laws.specs.Slid.{slid, slid_code}
use Rattle.slide_laws.specs.SlideCodes.{is_head_with, HasHeadsAndTails}
use Rattle.slide_laws.specs.Triangles.{IsTriangle, has_heights}
use Rattle.slide_laws.proofs.Sides.{HasSides-triangle}
use Rattle.slide_laws.proofs.SlidArcs.{length-slid, HasArcsTwice-slid}
use Rattle.slide_laws.proofs.SlidBack.{planar-slid}
use Rattle.slide_laws.proofs.SlidHeads.{HasHeadsAndTails-slid}
use Rattle.slide_laws.proofs.SlidTriangle.{sum_with-slid}
use Rattle.slide_laws.proofs.Passes.{component_count-slid}
use Rattle.diagram_moves.specs.Joinable.{IsJoinable}
use Rattle.diagram_moves.specs.Kept.{IsKeptCode, slid_parts}
use Rattle.diagram_moves.proofs.Standing.{standing-count}
use Rattle.diagram_moves.proofs.Numbered.{IsAccepted-renumber, components-renumber, sign-renumber, state_sum-renumber}
use Rattle.gluing_laws.proofs.DartPairs.{arc_of-dart}
use Rattle.kh_types.proofs.IntSums.{int_sum-range_agree}

-- signs that stand in a list for those of a function of crossings
abbrev AreSigns : List Bool → (ℕ → Bool) → ℕ → Type 0
AreSigns signs positive n = (place : ℕ) → place < n → is_positive_at signs place ≡ positive (place + 1)

-- crossings on which each arc has one head and one tail
HasTwoEnds-arcs : (crossings : List (List ℕ)) (positive : ℕ → Bool) (signs : List Bool) → HasArcsTwice crossings
    → HasHeadsAndTails crossings positive → AreSigns signs positive (length crossings) → HasTwoEnds crossings signs
HasTwoEnds-arcs crossings positive signs twice ends are =
    let n = length crossings in
    let head : (x : ℕ) → x < 4 * length crossings → is_head_at signs x ≡ is_head_with positive (dart_at x) =
    λ x below. ap (λ b. strand_enters b (x % 4)) (are (x / 4) (omega (arith, below))) in
    let arc : (x : ℕ) → x < 4 * length crossings → IsArc crossings (arc_of_dart crossings x) =
    λ x below. subst (λ (a : ℕ). IsArc crossings a) (arc_of-dart crossings x) (twice.slots (dart_at x) (IsDart-at crossings x below)) in
    let own : (x : ℕ) → x < 4 * length crossings → IsDartOf crossings (arc_of_dart crossings x) (dart_at x) =
    λ x below. record { within = IsDart-at crossings x below; on_arc = arc_of-dart crossings x } in
    let of_name : (x y : ℕ) → y < 4 * length crossings → arc_of_dart crossings x ≡ arc_of_dart crossings y
    → IsDartOf crossings (arc_of_dart crossings x) (dart_at y) =
    λ x y below same. record { within = IsDart-at crossings y below; on_arc = arc_of-dart crossings y ∙ sym same } in
    let back : (x y : ℕ) → dart_at x ≡ dart_at y → x ≡ y =
    λ x y same. sym (dart_place-at x) ∙ ap dart_place same ∙ dart_place-at y in
    record {
      one_head = λ x y x_below y_below x_head y_head same.
          let one = (ends (arc_of_dart crossings x) (arc x x_below)).0 in
          back x y
          (one.1.only (dart_at x) (own x x_below) (sym (head x x_below) ∙ x_head)
          ∙ sym (one.1.only (dart_at y) (of_name x y y_below same) (sym (head y y_below) ∙ y_head)));
      one_tail = λ x y x_below y_below x_tail y_tail same.
          let one = (ends (arc_of_dart crossings x) (arc x x_below)).1 in
          back x y
          (one.1.only (dart_at x) (own x x_below) (not_from_false (is_head_with positive (dart_at x)) (sym (head x x_below) ∙ x_tail))
          ∙ sym
          (one.1.only (dart_at y) (of_name x y y_below same) (not_from_false (is_head_with positive (dart_at y)) (sym (head y y_below) ∙ y_tail))));
      tail_of = λ x below is_head.
          let one = (ends (arc_of_dart crossings x) (arc x below)).1 in
          let y = dart_place one.0 in
          let y_below : dart_place one.0 < 4 * length crossings = dart_place-below crossings one.0 one.1.is.within in
          let at = dart_at-place crossings one.0 one.1.is.within in (
            y,
            y_below,
            head (dart_place one.0) y_below ∙ ap (is_head_with positive) at ∙ not-true (is_head_with positive one.0) one.1.kind_of,
            sym (sym (arc_of-dart crossings (dart_place one.0)) ∙ ap (arc_of crossings) at ∙ one.1.is.on_arc),
          );
      head_of = λ x below is_tail.
          let one = (ends (arc_of_dart crossings x) (arc x below)).0 in
          let y = dart_place one.0 in
          let y_below : dart_place one.0 < 4 * length crossings = dart_place-below crossings one.0 one.1.is.within in
          let at = dart_at-place crossings one.0 one.1.is.within in (
            y,
            y_below,
            head (dart_place one.0) y_below ∙ ap (is_head_with positive) at ∙ one.1.kind_of,
            sym (sym (arc_of-dart crossings (dart_place one.0)) ∙ ap (arc_of crossings) at ∙ one.1.is.on_arc),
          );
    }

IsPlanarBy-arcs : (crossings : List (List ℕ)) → HasArcsTwice crossings → face_count crossings ≡ planar_face_count crossings
    → IsPlanarBy crossings (partner_at crossings)
IsPlanarBy-arcs crossings twice planar =
    grind (arith, nat_tests, IsPairing-partner_at, IsOtherPlace-partner_at, arc_of_dart-partner, IsPlanar-twice)

-- crossings over their own arcs
module _ (strands : Parts) (twice : HasArcsTwice strands.crossings)
    (is : IsJoinable (arc_count strands.crossings + 1) strands) where
  abbrev code : Code
  code = record { crossings = strands.crossings; loops = strands.loops }

  arcs-below : ArcsBelow (arc_count strands.crossings + 1) strands.crossings
  arcs-below = ArcsBelow-slots (arc_count strands.crossings + 1) strands.crossings twice.slots (omega arith)

  pub own-components : parts_component_count (arc_count strands.crossings + 1) strands ≡ component_count strands.crossings + strands.loops
  own-components =
      let low = passes_of-below (arc_count strands.crossings + 1) strands.crossings arcs-below in
      let standing = standing-classes (arc_count strands.crossings + 1) strands.crossings (flat_map passes_of strands.crossings) low
      (IsOfNames-passes strands.crossings) in
      let names = standing-count (arc_count strands.crossings + 1) strands is.paired is.names in
      let count = class_count-components strands.crossings low in
      omega (arith, standing, names, count)

  pub own-circles : (state : ℕ)
      → parts_circle_count (arc_count strands.crossings + 1) strands state
      ≡ circle_count (record { crossings = strands.crossings; loops = strands.loops }) state
  own-circles state =
      let low = smoothings_of-below (arc_count strands.crossings + 1) state strands.crossings arcs-below in
      let standing = standing-classes (arc_count strands.crossings + 1) strands.crossings (smoothings_of strands.crossings state) low
      (IsOfNames-smoothings strands.crossings state) in
      let names = standing-count (arc_count strands.crossings + 1) strands is.paired is.names in
      let whole = before (record { crossings = strands.crossings; loops = strands.loops }) state twice in
      omega (arith, standing, names, whole)

  pub own-sum : (exponent : ℤ)
      → parts_sum (arc_count strands.crossings + 1) strands exponent
      ≡ sum_with (parts_plus strands) (parts_minus strands) (record { crossings = strands.crossings; loops = strands.loops }) exponent
  own-sum exponent =
      int_sum-range_agree (parts_term (arc_count strands.crossings + 1) strands exponent)
      (term_with (parts_plus strands) (parts_minus strands) (record { crossings = strands.crossings; loops = strands.loops }) exponent)
      0 (2 ^ length strands.crossings)
      (λ state from below.
      ap (λ c. term_of (parts_plus strands) (parts_minus strands) exponent (ones (length strands.crossings) state) c) (own-circles state))

-- a slide

pub signs-slid : (crossings : List (List ℕ)) (place : ℕ) → place < length crossings
    → is_positive_at (map (positive_at crossings) (range_with_len 0 (length crossings))) place ≡ is_positive crossings (place + 1)
signs-slid crossings place below =
    get_or-map-range_with_len (positive_at crossings) 0 (length crossings) place place false below (omega arith)

plus-slid : (crossings : List (List ℕ))
    → count_by (λ (b : Bool). b) (map (positive_at crossings) (range_with_len 0 (length crossings))) ≡ plus_count crossings
plus-slid crossings = grind (arith, nat_tests, count_by-map, count-later)

pub ArePaired-slid : (code : Code) (x y z : ℕ) → IsTrue (accepted code) → IsTriangle code.crossings x y z
    → ArePaired (slid_parts code x y z)
ArePaired-slid code x y z is triangle =
    let old_twice = HasArcsTwice-accepted code is in
    let sides = HasSides-triangle code.crossings x y z old_twice triangle in
    let new = slid code.crossings x y z in
    let size = length-slid code.crossings x y z in
    ArePaired-ends (slid_parts code x y z)
    (HasTwoEnds-arcs new (is_positive code.crossings) (slid_parts code x y z).positive (HasArcsTwice-slid code.crossings x y z old_twice sides)
    (HasHeadsAndTails-slid code x y z is sides) (λ place below. signs-slid code.crossings place (omega (arith, below, size))))

pub IsKept-slid : (code : Code) (x y z : ℕ) → IsTrue (accepted code) → IsTriangle code.crossings x y z → has_heights x y z ≡ true
    → IsKeptCode code (renumber (slid_parts code x y z)) (λ place. place) (length code.crossings)
IsKept-slid code x y z is triangle heights =
    let old_twice = HasArcsTwice-accepted code is in
    let sides = HasSides-triangle code.crossings x y z old_twice triangle in
    let new = slid code.crossings x y z in
    let strands = slid_parts code x y z in
    let size = length-slid code.crossings x y z in
    let twice = HasArcsTwice-slid code.crossings x y z old_twice sides in
    let joinable : IsJoinable (arc_count (slid code.crossings x y z) + 1) (slid_parts code x y z) = record {
      paired = ArePaired-slid code x y z is triangle;
      size = length-map-range_with_len (positive_at code.crossings) 0 (length code.crossings) ∙ sym size;
      partner = partner_at new;
      planar = IsPlanarBy-arcs new twice (planar-slid code x y z is sides);
      names = λ dart below. omega (arith, arc_of-dart new dart, arc_of_dart-below new twice dart below);
    } in
    let components = own-components strands twice joinable in
    let kept = component_count-slid code.crossings x y z old_twice sides in
    let numbered_components = components-renumber (arc_count (slid code.crossings x y z) + 1) strands joinable in
    let few = ((IsAccepted-is code).0 is).components in
    let plus : parts_plus (slid_parts code x y z) ≡ plus_count code.crossings = plus-slid code.crossings in
    let minus : parts_minus (slid_parts code x y z) ≡ minus_count code.crossings = ap₂ (λ n p. n - p) size plus in
    record {
      accepted_too = IsAccepted-renumber (arc_count (slid code.crossings x y z) + 1) strands joinable (omega (arith, components, kept, few));
      size = length-map new _ ∙ size;
      components = omega (arith, numbered_components, components, kept);
      signs = λ place below.
          sign-renumber (arc_count (slid code.crossings x y z) + 1) strands joinable place (omega (arith, below, size))
          ∙ signs-slid code.crossings place below;
      sums = λ exponent.
          state_sum-renumber (arc_count (slid code.crossings x y z) + 1) strands joinable exponent
          ∙ own-sum strands twice joinable exponent
          ∙ ap₂ (λ p m. sum_with p m (slid_code code x y z) exponent) plus minus
          ∙ sum_with-slid code x y z is sides heights exponent;
    }
