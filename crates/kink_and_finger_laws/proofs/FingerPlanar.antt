-- Where the named sides of two arcs are of one face, or the arcs are of two pieces, a code with a finger has as many faces as a
-- drawing on the sphere; and it is accepted exactly where it has. The partner function of two crossings that meet in a bigon joins
-- darts of one name in the code: the ends of the two arcs and the outer darts of the crossings, whichever is first on the under
-- arc, the inner darts, and all other darts as before. Last comes acceptance: a code with the faces of the sphere has checkerboard
-- colours, and the finger keeps the components.
use Rattle.std.proofs.lemmas.Bool.Decides.{nat_tests}
use Rattle.std.proofs.Common.{◌≡◌, ◌≢◌, ℕ, ◌⊎◌, inl, inr, ◌+◌, ◌-◌, ◌*◌, ◌/◌, ◌<◌, ◌∙◌, List, length, refl, sym, ap, subst, arith, Bool, true, false, not}
use Rattle.std.specs.Prelude.{◌↔◌, slice_index, if◌then◌else◌, IsTrue}
use Rattle.kh_types.specs.Code.{Code, IsArc, arc_in, slots_of}
use Rattle.kh_types.specs.Darts.{dart_place, partner_at}
use Rattle.kh_types.specs.Directions.{head_of, tail_of}
use Rattle.kh_types.specs.Faces.{face_count, planar_face_count, faces_of, pieces_of}
use Rattle.kh_types.specs.Acceptance.{accepted}
use Rattle.kh_types.proofs.AcceptedLemmas.{IsAccepted-is, HasArcsTwice-directed}
use Rattle.kh_types.proofs.DartPairs.{IsPairing-partner_at}
use Rattle.kh_types.proofs.Heads.{HasEnds-directed}
use Rattle.gluing_laws.specs.Codes.{arc_of_dart}
use Rattle.kink_and_finger_laws.specs.FingerAdd.{opened, fingered, fingered_crossings, with_finger, differ, side_dart, AreOfOneFace, AreOfTwoPieces}
use Rattle.kink_and_finger_laws.specs.Pulls.{IsClosedPlanar, dart_in}
use Rattle.kink_and_finger_laws.proofs.FingerSlots.{first_slot, first_start, length-fingered, second_slot, second_start, HasPasses-first, HasPasses-second}
use Rattle.kink_and_finger_laws.proofs.FingeredCodes.{AreFingerable-accepted, IsAdded-finger, IsDirected-fingered, component_count-fingered, head_number-own, head_number-uncut}
use Rattle.kink_and_finger_laws.proofs.MovableArcs.{AreFingerable}
use Rattle.kink_and_finger_laws.proofs.NamedPartners.{AreEnds, AreEnds-has, accepted-planar, face_count-named, name-head, name-slot, name-tail, name-uncut}
use Rattle.kink_and_finger_laws.proofs.OldDarts.{IsClosedPlanar-accepted}
use Rattle.kink_and_finger_laws.proofs.PassEnds.{HasPasses}
use Rattle.kink_and_finger_laws.proofs.TouchingArcs.{AreBigon-bigon, AreBigonNames, CanTouch, IsClosedPlanar-bigon, bigon_names, bigon_partner}
use Rattle.face_walk.proofs.OpenFaces.{open_pieces-ends}

-- the ends of the two arcs at which the sides are that touch: one of the over arc and one of the under arc, that first which the
-- second crossing has
abbrev pub touching_first : Bool → Bool → ℕ → ℕ → ℕ → ℕ → ℕ
touching_first positive ordered ta ha tb hb = if positive then (if ordered then ha else tb) else (if ordered then hb else ha)

abbrev pub touching_second : Bool → Bool → ℕ → ℕ → ℕ → ℕ → ℕ
touching_second positive ordered ta ha tb hb = if positive then (if ordered then tb else ta) else (if ordered then ta else hb)

abbrev pub first_touch : List (List ℕ) → ℕ → ℕ → Bool → Bool → ℕ
first_touch crossings a b positive ordered =
    touching_first positive ordered (dart_place (tail_of crossings a)) (dart_place (head_of crossings a)) (dart_place (tail_of crossings b))
    (dart_place (head_of crossings b))

abbrev pub second_touch : List (List ℕ) → ℕ → ℕ → Bool → Bool → ℕ
second_touch crossings a b positive ordered =
    touching_second positive ordered (dart_place (tail_of crossings a)) (dart_place (head_of crossings a)) (dart_place (tail_of crossings b))
    (dart_place (head_of crossings b))

-- names of darts that follow the passes of a finger
record AreFingerNames (n : ℕ) (partner : ℕ → ℕ) (positive ordered : Bool) (ta ha tb hb over under : ℕ) (name : ℕ → ℕ) : Type 0 where
  at_ta : name ta ≡ over
  at_ha : name ha ≡ over + 1 + 1
  at_tb : name tb ≡ under
  at_hb : name hb ≡ under + 1 + 1
  p_ta : partner ta ≡ ha
  p_ha : partner ha ≡ ta
  p_tb : partner tb ≡ hb
  p_hb : partner hb ≡ tb
  first : List ℕ
  second : List ℕ
  first_passes : HasPasses first positive (first_start ordered under) (first_start ordered under + 1) over (over + 1)
  second_passes : HasPasses second (not positive) (second_start ordered under) (second_start ordered under + 1) (over + 1) (over + 1 + 1)
  first_names : (slot : ℕ) → slot < 4 → name (dart_in n slot) ≡ arc_in first slot
  second_names : (slot : ℕ) → slot < 4 → name (dart_in (n + 1) slot) ≡ arc_in second slot
  old : (z : ℕ) → z < 4 * n → z ≢ ta → z ≢ ha → z ≢ tb → z ≢ hb → name (partner z) ≡ name z

bigon-names : (n : ℕ) (partner : ℕ → ℕ) (positive ordered : Bool) (ta ha tb hb over under : ℕ) (name : ℕ → ℕ)
    → AreFingerNames n partner positive ordered ta ha tb hb over under name
    → AreBigonNames n partner (touching_first positive ordered ta ha tb hb) (touching_second positive ordered ta ha tb hb)
    (first_slot positive ordered) (second_slot positive ordered) name
bigon-names n partner positive ordered ta ha tb hb over under name are =
    let first = are.first_names in
    let second = are.second_names in
    let one : 1 < 4 = omega arith in
    let two : 2 < 4 = omega arith in
    let three : 3 < 4 = omega arith in
    grind (
      arith,
      nat_tests,
      first 0 (omega arith),
      first 1 one,
      first 2 two,
      first 3 three,
      second 0 (omega arith),
      second 1 one,
      second 2 two,
      second 3 three,
    )

-- so do those of a code with a finger
pub AreBigonNames-fingered : (crossings : List (List ℕ)) (a b : ℕ) (positive ordered : Bool) → AreFingerable crossings a b
    → AreBigonNames (length crossings) (partner_at crossings)
    (first_touch crossings a b positive ordered)
    (second_touch crossings a b positive ordered)
    (first_slot positive ordered) (second_slot positive ordered) (arc_of_dart (fingered_crossings crossings a b positive ordered))
AreBigonNames-fingered crossings a b positive ordered can =
    let new = fingered_crossings crossings a b positive ordered in
    let n = length crossings in
    let added = IsAdded-finger crossings a b positive ordered can in
    let twice = HasArcsTwice-directed crossings can.directed in
    let has_over = HasEnds-directed crossings can.directed can.no_single a can.over in
    let has_under = HasEnds-directed crossings can.directed can.no_single b can.under in
    let over = AreEnds-has crossings a twice has_over in
    let under = AreEnds-has crossings b twice has_under in
    let two : n + 1 + 1 ≡ n + 2 = omega arith in
    bigon-names n (partner_at crossings) positive ordered (dart_place (tail_of crossings a)) (dart_place (head_of crossings a))
    (dart_place (tail_of crossings b)) (dart_place (head_of crossings b)) (opened a b a) (opened a b b) (arc_of_dart new)
    (record {
      at_ta = name-tail added a has_over;
      at_ha = name-head added a has_over ∙ head_number-own a b a (inl refl);
      at_tb = name-tail added b has_under;
      at_hb = name-head added b has_under ∙ head_number-own a b b (inr refl);
      p_ta = over.to_head;
      p_ha = over.to_tail;
      p_tb = under.to_head;
      p_hb = under.to_tail;
      first = slots_of new (n + 1);
      second = slots_of new (n + 2);
      first_passes = HasPasses-first crossings a b positive ordered;
      second_passes = HasPasses-second crossings a b positive ordered;
      first_names = name-slot new n;
      second_names = λ slot below. name-slot new (n + 1) slot below ∙ ap (λ k. arc_in (slots_of new k) slot) two;
      old = λ z below not_ta not_ha not_tb not_hb.
          name-uncut added z below
          (head_number-uncut a b (arc_of_dart crossings z) (over.others z below not_ta not_ha) (under.others z below not_tb not_hb));
    })

-- the sides can touch where they are of one face, or the arcs of two pieces
can_touch : (crossings : List (List ℕ)) (a b : ℕ) (positive ordered : Bool) (ta ha tb hb : ℕ) → a ≢ b → AreEnds crossings a ta ha
    → AreEnds crossings b tb hb → slice_index (pieces_of crossings) (ta / 4) ≡ slice_index (pieces_of crossings) (ha / 4)
    → slice_index (pieces_of crossings) (tb / 4) ≡ slice_index (pieces_of crossings) (hb / 4)
    → (slice_index (faces_of crossings) (touching_first positive ordered ta ha tb hb)
    ≡ slice_index (faces_of crossings) (touching_second positive ordered ta ha tb hb))
    ⊎ (slice_index (pieces_of crossings) (ta / 4) ≢ slice_index (pieces_of crossings) (tb / 4))
    → CanTouch (length crossings) (partner_at crossings) (touching_first positive ordered ta ha tb hb)
    (touching_second positive ordered ta ha tb hb)
can_touch crossings a b true true ta ha tb hb apart over under over_piece under_piece places = grind arith
can_touch crossings a b true false ta ha tb hb apart over under over_piece under_piece places = grind arith
can_touch crossings a b false true ta ha tb hb apart over under over_piece under_piece places = grind arith
can_touch crossings a b false false ta ha tb hb apart over under over_piece under_piece places = grind arith

planar-fingered : (code : Code) (a b : ℕ) (positive ordered : Bool) → IsTrue (accepted code) → AreFingerable code.crossings a b
    → (slice_index (faces_of code.crossings) (first_touch code.crossings a b positive ordered)
    ≡ slice_index (faces_of code.crossings) (second_touch code.crossings a b positive ordered))
    ⊎ (slice_index (pieces_of code.crossings) (dart_place (tail_of code.crossings a) / 4)
    ≢ slice_index (pieces_of code.crossings) (dart_place (tail_of code.crossings b) / 4))
    → face_count (fingered_crossings code.crossings a b positive ordered) ≡ planar_face_count (fingered_crossings code.crossings a b positive ordered)
planar-fingered code a b positive ordered holds can places =
    let crossings = code.crossings in
    let new = fingered_crossings crossings a b positive ordered in
    let n = length crossings in
    let partner = partner_at crossings in
    let size = length-fingered crossings a b positive ordered in
    let twice = HasArcsTwice-directed crossings can.directed in
    let closed = IsClosedPlanar-accepted code holds in
    let over = AreEnds-has crossings a twice (HasEnds-directed crossings can.directed can.no_single a can.over) in
    let under = AreEnds-has crossings b twice (HasEnds-directed crossings can.directed can.no_single b can.under) in
    let ta = dart_place (tail_of crossings a) in
    let ha = dart_place (head_of crossings a) in
    let tb = dart_place (tail_of crossings b) in
    let hb = dart_place (head_of crossings b) in
    let x = touching_first positive ordered ta ha tb hb in
    let y = touching_second positive ordered ta ha tb hb in
    let p = first_slot positive ordered in
    let q = second_slot positive ordered in
    let piece : (t h : ℕ) → t < 4 * n → partner_at crossings t ≡ h
    → slice_index (pieces_of crossings) (t / 4) ≡ slice_index (pieces_of crossings) (h / 4) =
    λ t h below is. open_pieces-ends n partner t (IsPairing-partner_at crossings twice) below ∙ ap (λ z. slice_index (pieces_of crossings) (z / 4)) is in
    let touch = can_touch crossings a b positive ordered ta ha tb hb can.apart over under (piece ta ha over.tail_below over.to_head)
    (piece tb hb under.tail_below under.to_head) places in
    face_count-named new (bigon_partner n partner x y p q) (HasArcsTwice-directed new (IsDirected-fingered crossings a b positive ordered can))
    (subst (λ (k : ℕ). IsClosedPlanar k (bigon_partner n partner x y p q)) (sym size) (IsClosedPlanar-bigon n partner x y p q closed touch))
    (λ z below.
    bigon_names n partner x y p q (arc_of_dart new) (bigon_partner n partner x y p q) (AreBigonNames-fingered crossings a b positive ordered can)
    (AreBigon-bigon n partner x y p q closed touch) z (omega (arith, below, size)))

-- by names of sides
touching-sides : (crossings : List (List ℕ)) (a b : ℕ) (a_left b_left : Bool) (class : ℕ → ℕ)
    → class (dart_place (side_dart crossings a a_left)) ≡ class (dart_place (side_dart crossings b b_left))
    → class (first_touch crossings a b b_left (differ a_left b_left))
    ≡ class (second_touch crossings a b b_left (differ a_left b_left))
touching-sides crossings a b true true class same = sym same
touching-sides crossings a b true false class same = sym same
touching-sides crossings a b false true class same = same
touching-sides crossings a b false false class same = same

pub planar-one_face : (code : Code) (a b : ℕ) (a_left b_left : Bool) → IsTrue (accepted code) → IsArc code.crossings a → IsArc code.crossings b
    → a ≢ b → AreOfOneFace code.crossings a a_left b b_left
    → face_count (with_finger code a a_left b b_left).crossings ≡ planar_face_count (with_finger code a a_left b b_left).crossings
planar-one_face code a b a_left b_left holds over under apart one =
    planar-fingered code a b b_left (differ a_left b_left) holds (AreFingerable-accepted code a b holds over under apart)
    (inl (touching-sides code.crossings a b a_left b_left (λ z. slice_index (faces_of code.crossings) z) one))

pub planar-two_pieces : (code : Code) (a b : ℕ) (a_left b_left : Bool) → IsTrue (accepted code) → IsArc code.crossings a
    → IsArc code.crossings b → AreOfTwoPieces code.crossings a b
    → face_count (with_finger code a a_left b b_left).crossings ≡ planar_face_count (with_finger code a a_left b b_left).crossings
planar-two_pieces code a b a_left b_left holds over under two =
    let can = AreFingerable-accepted code a b holds over under
    (λ same. two (ap (λ z. slice_index (pieces_of code.crossings) ((tail_of code.crossings z).crossing - 1)) same)) in
    let place : (x : ℕ) → IsArc code.crossings x → dart_place (tail_of code.crossings x) / 4 ≡ (tail_of code.crossings x).crossing - 1 =
    λ x is.
    let slot = (HasEnds-directed code.crossings can.directed can.no_single x is).tail.within.slot in
    omega (arith, slot) in
    planar-fingered code a b b_left (differ a_left b_left) holds can
    (inr (λ same. two
    (ap (λ z. slice_index (pieces_of code.crossings) z) (sym (place a over)) ∙ same
    ∙ ap (λ z. slice_index (pieces_of code.crossings) z) (place b under))))

-- the code is accepted exactly where it has the faces of a drawing on the sphere
pub accepted-fingered : (code : Code) (a b : ℕ) (positive ordered : Bool) → IsTrue (accepted code) → IsArc code.crossings a
    → IsArc code.crossings b → a ≢ b
    → (face_count (fingered code a b positive ordered).crossings ≡ planar_face_count (fingered code a b positive ordered).crossings)
    ↔ IsTrue (accepted (fingered code a b positive ordered))
accepted-fingered code a b positive ordered holds over under apart =
    let new = fingered code a b positive ordered in
    let can = AreFingerable-accepted code a b holds over under apart in (
      accepted-planar code new holds (IsDirected-fingered code.crossings a b positive ordered can)
          (component_count-fingered code.crossings a b positive ordered can) refl,
      λ is. ((IsAccepted-is new).0 is).faces,
    )
