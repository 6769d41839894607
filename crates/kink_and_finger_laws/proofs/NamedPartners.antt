-- Partners in a code to which crossings were added, found by the names of arcs: a planar partner function whose partners share
-- their arcs is that of the code, so the code has the faces of a drawing on the sphere. An old arc has its first name at its
-- tail and its last at its head, and one that was not cut the same at both.
use Rattle.std.proofs.Common.{◌≡◌, ◌≢◌, ℕ, ◌+◌, ◌*◌, ◌<◌, ◌∙◌, inl, inr, List, length, sym, ap, arith, Bool, true, false}
use Rattle.std.specs.Prelude.{IsTrue}
use Rattle.std.proofs.lemmas.Bool.{cases_Bool}
use Rattle.std.proofs.lemmas.Bool.Decides.{nat_tests}
use Rattle.kh_types.specs.declared.dart.Dart.{Dart}
use Rattle.kh_types.specs.Code.{Code, arc_in, slots_of}
use Rattle.kh_types.specs.Darts.{arc_of, dart_at, dart_place, partner_at, HasArcsTwice, IsDartOf}
use Rattle.kh_types.specs.Directions.{is_head, head_of, tail_of, HasEnds}
use Rattle.kh_types.specs.Faces.{face_count, planar_face_count}
use Rattle.kh_types.specs.Acceptance.{accepted}
use Rattle.kh_types.specs.Accepted.{IsDirected}
use Rattle.kh_types.specs.Components.{component_count}
use Rattle.kh_types.proofs.AcceptedLemmas.{IsAccepted-is, HasArcsTwice-directed}
use Rattle.face_walk.proofs.Board.{IsCheckerboard-planar}
use Rattle.kh_types.proofs.DartPairs.{dart_at-place, dart_place-at, dart_place-below, IsDart-at, IsOtherPlace-partner_at}
use Rattle.face_walk.proofs.FewFaces.{IsPlanar-twice}
use Rattle.gluing_laws.specs.Codes.{arc_of_dart}
use Rattle.kink_and_finger_laws.specs.Pulls.{IsClosedPlanar, dart_in}
use Rattle.kink_and_finger_laws.proofs.AddedCodes.{IsAdded, arc_of-uncut, head_dart, tail_dart}
use Rattle.kink_and_finger_laws.proofs.MoreCrossings.{IsPlanar-agree}
use Rattle.kink_and_finger_laws.proofs.OldDarts.{arc_of_dart-in, arc_of_dart-partner, partner-named}
use Rattle.gluing_laws.proofs.DartPairs.{arc_of-dart}

pub face_count-named : (crossings : List (List ℕ)) (partner : ℕ → ℕ) → HasArcsTwice crossings → IsClosedPlanar (length crossings) partner
    → ((z : ℕ) → z < 4 * length crossings → arc_of_dart crossings (partner z) ≡ arc_of_dart crossings z)
    → face_count crossings ≡ planar_face_count crossings
face_count-named crossings partner twice closed named =
    (IsPlanar-twice crossings twice).0
    (IsPlanar-agree (length crossings) partner (partner_at crossings)
    (λ z below. sym (partner-named crossings twice z (partner z) below (closed.pairing.below z below) (closed.other z below) (named z below)))
    closed.planar)

-- a directed code with these faces and the components of an accepted code is accepted: it has checkerboard colours
pub accepted-planar : (old new : Code) → IsTrue (accepted old) → IsDirected new.crossings
    → component_count new.crossings ≡ component_count old.crossings → new.loops ≡ old.loops
    → face_count new.crossings ≡ planar_face_count new.crossings → IsTrue (accepted new)
accepted-planar old new holds directed components loops planar =
    (IsAccepted-is new).1 (record {
      directed = directed;
      checkerboard = IsCheckerboard-planar new.crossings (HasArcsTwice-directed new.crossings directed) planar;
      faces = planar;
      components = omega (arith, ((IsAccepted-is old).0 holds).components, components, loops);
    })

-- the name at a slot of a crossing
pub name-slot : (crossings : List (List ℕ)) (n slot : ℕ) → slot < 4
    → arc_of_dart crossings (dart_in n slot) ≡ arc_in (slots_of crossings (n + 1)) slot
name-slot crossings n slot below = grind (arith, nat_tests, arc_of_dart-in)

-- the ends of an arc are partners, and all other darts are of other arcs
pub record AreEnds (crossings : List (List ℕ)) (a tail head : ℕ) : Type 0 where
  pub tail_below : tail < 4 * length crossings
  pub head_below : head < 4 * length crossings
  pub tail_name : arc_of_dart crossings tail ≡ a
  pub head_name : arc_of_dart crossings head ≡ a
  pub to_head : partner_at crossings tail ≡ head
  pub to_tail : partner_at crossings head ≡ tail
  pub others : (z : ℕ) → z < 4 * length crossings → z ≢ tail → z ≢ head → arc_of_dart crossings z ≢ a

pub AreEnds-has : (crossings : List (List ℕ)) (a : ℕ) → HasArcsTwice crossings → HasEnds crossings a
    → AreEnds crossings a (dart_place (tail_of crossings a)) (dart_place (head_of crossings a))
AreEnds-has crossings a twice ends =
    let tail = dart_place (tail_of crossings a) in
    let head = dart_place (head_of crossings a) in
    let below = dart_place-below crossings in
    let name : (d : Dart) → IsDartOf crossings a d → arc_of_dart crossings (dart_place d) ≡ a =
    λ d is. sym (arc_of-dart crossings (dart_place d)) ∙ ap (λ e. arc_of crossings e) (dart_at-place crossings d is.within) ∙ is.on_arc in
    let tail_name = name (tail_of crossings a) ends.tail in
    let head_name = name (head_of crossings a) ends.head in
    let tail_below = below (tail_of crossings a) ends.tail.within in
    let head_below = below (head_of crossings a) ends.head.within in
    let apart : head ≢ tail =
    λ same. ends.leaves (ap (λ d. is_head crossings d)
    (sym (dart_at-place crossings (tail_of crossings a) ends.tail.within) ∙ ap dart_at (sym same)
    ∙ dart_at-place crossings (head_of crossings a) ends.head.within) ∙ ends.enters) in
    record {
      tail_below = tail_below;
      head_below = head_below;
      tail_name = tail_name;
      head_name = head_name;
      to_head = partner-named crossings twice tail head tail_below head_below apart (head_name ∙ sym tail_name);
      to_tail = partner-named crossings twice head tail head_below tail_below (λ same. apart (sym same)) (tail_name ∙ sym head_name);
      others = λ z z_below not_tail not_head on.
          let is : IsDartOf crossings a (dart_at z) =
          record { within = IsDart-at crossings z z_below; on_arc = arc_of-dart crossings z ∙ on } in
          elim (cases_Bool (is_head crossings (dart_at z))) [
            | inl enters ↦ not_head (sym (dart_place-at z) ∙ ap dart_place (ends.one_head (dart_at z) is enters))
            | inr leaves ↦
                not_tail (sym (dart_place-at z) ∙ ap dart_place (ends.one_tail (dart_at z) is (true_from_false leaves)))
          ];
    }
  where
    true_from_false : {b : Bool} → b ≡ false → b ≢ true
    true_from_false {b} fails holds = cc

module _ {old new : List (List ℕ)} {rise end low : ℕ → ℕ} {sign : ℕ → Bool}
    (added : IsAdded old new rise end low sign) where
  pub name-tail : (a : ℕ) → HasEnds old a → arc_of_dart new (dart_place (tail_of old a)) ≡ rise a
  name-tail a ends =
      sym (arc_of-dart new (dart_place (tail_of old a)))
      ∙ ap (λ d. arc_of new d) (dart_at-place old (tail_of old a) ends.tail.within) ∙ tail_dart added a ends

  pub name-head : (a : ℕ) → HasEnds old a → arc_of_dart new (dart_place (head_of old a)) ≡ end a
  name-head a ends =
      sym (arc_of-dart new (dart_place (head_of old a)))
      ∙ ap (λ d. arc_of new d) (dart_at-place old (head_of old a) ends.head.within) ∙ head_dart added a ends

  -- the partners of darts of arcs that were not cut share their names
  pub name-uncut : (z : ℕ) → z < 4 * length old → rise (arc_of_dart old z) ≡ end (arc_of_dart old z)
      → arc_of_dart new (partner_at old z) ≡ arc_of_dart new z
  name-uncut z below uncut =
      let twice = HasArcsTwice-directed old added.directed in
      let own : (w : ℕ) → w < 4 * length old → rise (arc_of_dart old w) ≡ end (arc_of_dart old w) → arc_of_dart new w ≡ rise (arc_of_dart old w) =
      λ w w_below same.
      let old_is = arc_of-dart old w in
      sym (arc_of-dart new w)
      ∙ arc_of-uncut added (dart_at w) (IsDart-at old w w_below) (ap rise old_is ∙ same ∙ ap end (sym old_is)) ∙ ap rise old_is in
      let same = arc_of_dart-partner old twice z below in
      own (partner_at old z) (IsOtherPlace-partner_at old z twice below).below (ap rise same ∙ uncut ∙ ap end (sym same))
      ∙ ap rise same ∙ sym (own z below uncut)
