-- The partner function of a planar kink joins darts of one name in a code with a kink: the tail of the kinked arc and the dart at
-- which the new crossing is entered, its head and the dart at which it is left, the two inner darts of the crossing, and all
-- other darts as before, as their arcs have only got other numbers. So the code has the faces of a drawing on the sphere.
-- Acceptance follows: the code is directed, a planar code has checkerboard colours, and the components are as many as before.
use Rattle.std.proofs.Common.{◌≡◌, ◌≢◌, ℕ, ◌+◌, ◌*◌, ◌<◌, ◌∙◌, length, refl, sym, ap, subst, arith, Bool}
use Rattle.std.specs.Prelude.{IsTrue}
use Rattle.std.proofs.lemmas.Bool.{cases_lt}
use Rattle.std.proofs.lemmas.Bool.Decides.{nat_tests}
use Rattle.kh_types.specs.Code.{Code, IsArc}
use Rattle.kh_types.specs.Darts.{dart_place, partner_at}
use Rattle.kh_types.specs.Directions.{tail_of}
use Rattle.kh_types.specs.Faces.{face_count, planar_face_count}
use Rattle.kh_types.specs.Acceptance.{accepted}
use Rattle.kh_types.proofs.AcceptedLemmas.{HasArcsTwice-directed}
use Rattle.kh_types.proofs.Heads.{HasEnds-directed}
use Rattle.gluing_laws.specs.Codes.{arc_of_dart}
use Rattle.kink_and_finger_laws.specs.KinkAdds.{raised, with_kink}
use Rattle.kink_and_finger_laws.specs.Pulls.{kinked, AreNew, IsClosedPlanar, dart_in}
use Rattle.kink_and_finger_laws.proofs.PulledDarts.{AreKinked}
use Rattle.kink_and_finger_laws.proofs.OldDarts.{IsClosedPlanar-accepted}
use Rattle.kink_and_finger_laws.proofs.KinkAdded.{AreKinked-kinked, IsClosedPlanar-kinked}
use Rattle.kink_and_finger_laws.proofs.KinkSlots.{kinked_crossings, last, length-kinked, start_slot, end_slot, inner_slot, outer_slot, HasKinkSlots-new, AreFour-kink}
use Rattle.kink_and_finger_laws.proofs.KinkedCodes.{IsAdded-kink, IsDirected-kinked, IsKinkable-accepted, component_count-kinked}
use Rattle.kink_and_finger_laws.proofs.NamedPartners.{AreEnds-has, accepted-planar, face_count-named, name-head, name-slot, name-tail, name-uncut}

-- the numbers of the arc with the kink at its ends
pub raised-own : (a : ℕ) → raised a a ≡ a
raised-own a = grind (arith, nat_tests)

pub last-own : (a : ℕ) → last a a ≡ a + 2
last-own a = grind (arith, nat_tests)

raised-uncut : (a x : ℕ) → x ≢ a → raised a x ≡ last a x
raised-uncut a x other = grind (arith, nat_tests)

-- the four darts of the new crossing
AreNew-kink : (n : ℕ) (over positive : Bool)
    → AreNew n (dart_in n (start_slot over positive)) (dart_in n (end_slot over positive)) (dart_in n (inner_slot over positive))
    (dart_in n (outer_slot over positive))
AreNew-kink n over positive = grind (arith, nat_tests)

-- names that partners share at the new crossing, and at the darts that keep their partners, are shared by all
kink_names : (n : ℕ) (partner : ℕ → ℕ) (x u w v s : ℕ) (name new : ℕ → ℕ) → AreNew n u w v s → AreKinked n partner x u w v s new
    → name x ≡ name u → name (partner x) ≡ name w → name v ≡ name s
    → ((z : ℕ) → z < 4 * n → z ≢ x → z ≢ partner x → name (partner z) ≡ name z) → (z : ℕ) → z < 4 * (n + 1) → name (new z) ≡ name z
kink_names n partner x u w v s name new four are start end inner old z below = grind (arith, nat_tests, four.all z, cases_lt z (4 * n))

-- so there are n + 2k faces
pub planar-kinked : (code : Code) (a : ℕ) (over positive : Bool) → IsTrue (accepted code) → IsArc code.crossings a
    → face_count (kinked_crossings code.crossings a over positive) ≡ planar_face_count (kinked_crossings code.crossings a over positive)
planar-kinked code a over positive holds arc =
    let crossings = code.crossings in
    let new = kinked_crossings crossings a over positive in
    let n = length crossings in
    let p = partner_at crossings in
    let can = IsKinkable-accepted code a holds arc in
    let added = IsAdded-kink crossings a over positive can in
    let closed = IsClosedPlanar-accepted code holds in
    let has_ends = HasEnds-directed crossings can.directed can.no_single a arc in
    let ends = AreEnds-has crossings a (HasArcsTwice-directed crossings can.directed) has_ends in
    let size = length-kinked crossings a over positive in
    let x = dart_place (tail_of crossings a) in
    let u = dart_in n (start_slot over positive) in
    let w = dart_in n (end_slot over positive) in
    let v = dart_in n (inner_slot over positive) in
    let s = dart_in n (outer_slot over positive) in
    let four = AreNew-kink n over positive in
    let slots = HasKinkSlots-new crossings a over positive in
    let below = AreFour-kink over positive in
    let name = arc_of_dart new in
    face_count-named new (kinked n p x u w v s) (HasArcsTwice-directed new (IsDirected-kinked crossings a over positive can))
    (subst (λ (k : ℕ). IsClosedPlanar k (kinked n p x u w v s)) (sym size) (IsClosedPlanar-kinked n p x u w v s closed ends.tail_below four))
    (λ z z_below.
    kink_names n p x u w v s name (kinked n p x u w v s) four (AreKinked-kinked n p x u w v s closed ends.tail_below four)
    (name-tail added a has_ends ∙ raised-own a ∙ sym (name-slot new n (start_slot over positive) below.start ∙ slots.start))
    (ap name ends.to_head ∙ name-head added a has_ends ∙ last-own a ∙ sym (name-slot new n (end_slot over positive) below.end ∙ slots.end))
    (name-slot new n (inner_slot over positive) below.inner ∙ slots.inner
    ∙ sym (name-slot new n (outer_slot over positive) below.outer ∙ slots.outer))
    (λ y y_below not_tail not_head.
    name-uncut added y y_below
    (raised-uncut a (arc_of_dart crossings y) (ends.others y y_below not_tail (λ same. not_head (same ∙ sym ends.to_head)))))
    z (omega (arith, z_below, size)))

-- and the code is accepted
pub accepted-kinked : (code : Code) (a : ℕ) (over positive : Bool) → IsTrue (accepted code) → IsArc code.crossings a
    → IsTrue (accepted (with_kink over positive a code))
accepted-kinked code a over positive holds arc =
    let can = IsKinkable-accepted code a holds arc in
    accepted-planar code (with_kink over positive a code) holds (IsDirected-kinked code.crossings a over positive can)
    (component_count-kinked code.crossings a over positive can) refl (planar-kinked code a over positive holds arc)
