-- Codes whose crossings are turned by some slots, with other numbers on the arcs: faces, pieces, components and colours stay.
--
-- A turn goes round the crossing, so that partners go to partners and the next slot to the next slot. Faces, pieces and passes are said by
-- these two steps, so the turn keeps together what they join (`Carries`). As each of the two codes is a turn of the other (`AreRotated`),
-- this is shown one way only, and gives as many classes in both. A turn by one slot changes the bit of a colour. Each rule of acceptance
-- but the direction of over passes then follows at once.
use Rattle.std.proofs.lemmas.Bool.Decides.{nat_tests}
use Rattle.std.proofs.Common.{IsTrue, List, [], ap, ap₂, arith, get_or, length, map, refl, subst, suc, sym, zero, ℕ, ◌%◌, ◌*◌, ◌+◌, ◌-◌, ◌/◌, ◌<◌, ◌^◌, ◌∙◌, ◌∷◌, ◌≡◌, ◌≢◌, ◌≤◌}
use Rattle.std.proofs.lemmas.Bool.{eq-eqb}
use Rattle.std.proofs.lemmas.List.FromFn.{get_or-map-range_with_len, length-map-range_with_len}
use Rattle.std.specs.List.{flat_map, range_with_len}
use Rattle.std.specs.Prelude.{slice_index, slice_index_or}
use Rattle.kh_types.proofs.AcceptedLemmas.{HasArcsTwice-directed, IsAccepted-is}
use Rattle.kh_types.proofs.ClassCounts.{class_count-components}
use Rattle.kh_types.proofs.ClassLemmas.{classes-finest, classes-together}
use Rattle.kh_types.proofs.DartColours.{IsColoured-checkerboard}
use Rattle.kh_types.proofs.DartPairs.{IsDart-at, IsDartOf-first_dart, IsOtherPlace-partner_at, dart_at-place, dart_place-at, dart_place-below, partner-is, partner_at-only}
use Rattle.kh_types.proofs.JoinedClasses.{IsNamed-classes_of}
use Rattle.kh_types.proofs.PassPairs.{passes-all, passes-below}
use Rattle.kh_types.proofs.RangeCounts.{list_all-each}
use Rattle.kh_types.specs.Acceptance.{accepted}
use Rattle.kh_types.specs.Accepted.{IsDirected}
use Rattle.kh_types.specs.Bits.{bit}
use Rattle.kh_types.specs.Checkerboard.{IsCheckerboard, solves_at}
use Rattle.kh_types.specs.Classes.{AreBelow, Respects, class_count, classes_of}
use Rattle.kh_types.specs.Code.{Code, IsArc, IsCrossing, arc_count, arc_in, place_of, slots_of}
use Rattle.kh_types.specs.Colours.{colour}
use Rattle.kh_types.specs.Components.{component_count, components_of, passes_of}
use Rattle.kh_types.specs.Darts.{HasArcsTwice, IsDart, arc_of, dart_at, dart_place, first_dart, partner, partner_at, turned}
use Rattle.kh_types.specs.Edges.{arc_at_slot}
use Rattle.kh_types.specs.Faces.{face_count, face_pair, faces_of, piece_count, piece_pair, pieces_of}
use Rattle.kh_types.specs.declared.dart.Dart.{Dart}
use Rattle.square_laws.proofs.LabelNumbers.{bit-number_from, number_from, number_from-below}
use Rattle.kh_types.proofs.CountedClasses.{at-respects, class_count-alike, respects-at}
use Rattle.link_algebra.proofs.Renamings.{IsRenaming, IsRenaming-back, IsRotated}
use Rattle.link_algebra.proofs.UnitedAccepted.{faces-below, pieces-below}

-- a place turned by some slots round its crossing
abbrev spun : ℕ → ℕ → ℕ
spun b place = 4 * (place / 4) + (place % 4 + b) % 4

abbrev onto : (ℕ → ℕ) → ℕ → ℕ
onto by place = spun (by (place / 4 + 1)) place

spun-crossing : (b place : ℕ) → spun b place / 4 ≡ place / 4
spun-crossing b place = omega arith

spun-below : (n b place : ℕ) → place < 4 * n → spun b place < 4 * n
spun-below n b place below = omega (arith, below)

onto-turned : (by : ℕ → ℕ) (place : ℕ) → turned (onto by place) ≡ onto by (turned place)
onto-turned by place = grind (arith, nat_tests)

slot-arc : (code : Code) (crossing slot : ℕ) → HasArcsTwice code.crossings → IsCrossing code.crossings crossing → slot < 4
    → IsArc code.crossings (arc_at_slot code crossing slot)
slot-arc code crossing slot twice is below =
    twice.slots (record { crossing = crossing; slot = slot }) (record { crossing = is; slot = below })

-- the turn the other way
abbrev pub opposite : (ℕ → ℕ) → ℕ → ℕ
opposite by crossing = (4 - by crossing) % 4

pub IsRotated-back : (by f back : ℕ → ℕ) (old new : Code) → HasArcsTwice old.crossings → IsRotated by f back old new
    → IsRotated (opposite by) back f new old
IsRotated-back by f back old new twice rotated =
    record {
      size = sym rotated.size;
      loops = sym rotated.loops;
      names = subst (λ (most : ℕ). IsRenaming most back f) (omega (arith, rotated.size, rotated.loops))
          (IsRenaming-back (arc_count old.crossings + old.loops) f back rotated.names);
      few = λ crossing. omega arith;
      arcs = λ crossing slot is below.
          let from = (slot + opposite by crossing) % 4 in
          let is_old : IsCrossing old.crossings crossing =
          record { positive = is.positive; within = omega (arith, is.within, rotated.size) } in
          let arc = slot-arc old crossing from twice is_old (omega arith) in
          let e : (from + by crossing) % 4 ≡ slot = omega (arith, rotated.few crossing, below) in
          sym (rotated.names.there (arc_at_slot old crossing from) arc.positive (omega (arith, arc.within)))
          ∙ ap back (sym (rotated.arcs crossing from is_old (omega arith))) ∙ ap (λ k. back (arc_at_slot new crossing k)) e;
    }

-- two codes, each the other with its crossings turned
pub record AreRotated (by home f back : ℕ → ℕ) (old new : Code) : Type 0 where
  pub old_directed : IsDirected old.crossings
  pub new_directed : IsDirected new.crossings
  pub round : (crossing : ℕ) → (by crossing + home crossing) % 4 ≡ 0
  pub there : IsRotated by f back old new
  pub here : IsRotated home back f new old

AreRotated-back : (by home f back : ℕ → ℕ) (old new : Code) → AreRotated by home f back old new → AreRotated home by back f new old
AreRotated-back by home f back old new are = grind (arith, nat_tests)

AreRotated-from : (by f back : ℕ → ℕ) (old new : Code) → IsDirected old.crossings → IsDirected new.crossings
    → IsRotated by f back old new → AreRotated by (opposite by) f back old new
AreRotated-from by f back old new old_directed new_directed rotated =
    record {
      old_directed = old_directed;
      new_directed = new_directed;
      round = λ crossing. omega (arith, rotated.few crossing);
      there = rotated;
      here = IsRotated-back by f back old new (HasArcsTwice-directed old.crossings old_directed) rotated;
    }

-- a map of numbers below m to numbers below n, with a way back, that keeps pairs together
record Carries (m n : ℕ) (f back : ℕ → ℕ) (pairs others : List (ℕ × ℕ)) : Type 0 where
  pub small : AreBelow m pairs
  pub below : (x : ℕ) → x < m → f x < n
  pub there : (x : ℕ) → x < m → back (f x) ≡ x
  pub together : Respects (λ x. slice_index (classes_of n others) (f x)) pairs

class_count-carried : (m n : ℕ) (f back : ℕ → ℕ) (pairs others : List (ℕ × ℕ)) → Carries m n f back pairs others
    → Carries n m back f others pairs → class_count (classes_of n others) ≡ class_count (classes_of m pairs)
class_count-carried m n f back pairs others onward home =
    let first = classes_of m pairs in
    let second = classes_of n others in
    sym (class_count-alike m n f back first second (IsNamed-classes_of m pairs onward.small) (IsNamed-classes_of n others home.small)
    (record {
      below = onward.below;
      back_below = home.below;
      here = home.there;
      onward = classes-finest (λ x. slice_index second (f x)) m pairs onward.together onward.small;
      backward = λ x y x_below y_below same.
          ap (slice_index first) (sym (onward.there x x_below))
          ∙ classes-finest (λ z. slice_index first (back z)) n others home.together home.small (f x) (f y) (onward.below x x_below)
          (onward.below y y_below) same
          ∙ ap (slice_index first) (onward.there y y_below);
    }))

pass-at : (g : ℕ → ℕ) (crossings : List (List ℕ)) → Respects g (flat_map passes_of crossings) → (k : ℕ) → k < length crossings
    → (g (arc_in (slice_index_or crossings k []) 0) ≡ g (arc_in (slice_index_or crossings k []) 2))
    × (g (arc_in (slice_index_or crossings k []) 1) ≡ g (arc_in (slice_index_or crossings k []) 3))
pass-at g [] respects k below = absurd (omega (arith, below))
pass-at g (slots ∷ crossings) respects zero below = (respects.0, respects.1.0)
pass-at g (slots ∷ crossings) respects (suc k) below = pass-at g crossings respects.1.1 k (omega (arith, below))

-- a function that is the same at the ends of each pass is so at slots two apart
across-slots : (g : ℕ → ℕ) (slots : List ℕ) → g (arc_in slots 0) ≡ g (arc_in slots 2) → g (arc_in slots 1) ≡ g (arc_in slots 3)
    → (slot : ℕ) → slot < 4 → g (arc_in slots slot) ≡ g (arc_in slots ((slot + 2) % 4))
across-slots g slots under over slot below = grind (arith, nat_tests)

pass-slots : (g : ℕ → ℕ) (code : Code) (crossing slot : ℕ) → Respects g (flat_map passes_of code.crossings)
    → IsCrossing code.crossings crossing → slot < 4
    → g (arc_at_slot code crossing slot) ≡ g (arc_at_slot code crossing ((slot + 2) % 4))
pass-slots g code crossing slot respects is below =
    let at = pass-at g code.crossings respects (place_of crossing) (omega (arith, is.positive, is.within)) in
    across-slots g (slots_of code.crossings crossing) at.0 at.1 slot below

-- the numbers up to 2n, where 0 stays
abbrev with_zero : (ℕ → ℕ) → ℕ → ℕ
with_zero f zero = 0
with_zero f (suc x) = f (suc x)

with_zero-some : (f : ℕ → ℕ) (x : ℕ) → 1 ≤ x → with_zero f x ≡ f x
with_zero-some f x from = grind (arith, nat_tests)

-- the turn carries partners, faces, pieces, arcs and components
abbrev face_pairs : List (List ℕ) → List (ℕ × ℕ)
face_pairs crossings = map (face_pair (partner_at crossings)) (range_with_len 0 (4 * length crossings))

abbrev piece_pairs : List (List ℕ) → List (ℕ × ℕ)
piece_pairs crossings = map (piece_pair (partner_at crossings)) (range_with_len 0 (4 * length crossings))

module _ (by home f back : ℕ → ℕ) (old new : Code) (are : AreRotated by home f back old new) where
  old_twice : HasArcsTwice old.crossings
  old_twice = HasArcsTwice-directed old.crossings are.old_directed

  new_twice : HasArcsTwice new.crossings
  new_twice = HasArcsTwice-directed new.crossings are.new_directed

  moved : (crossing : ℕ) → IsCrossing old.crossings crossing → IsCrossing new.crossings crossing
  moved crossing is = record { positive = is.positive; within = omega (arith, is.within, are.there.size) }

  onto-back : (q : ℕ) → onto home (onto by q) ≡ q
  onto-back q = grind (arith, nat_tests)

  onto-below : (q : ℕ) → q < 4 * length old.crossings → onto by q < 4 * length new.crossings
  onto-below q below = omega (arith, spun-below (length old.crossings) (by (q / 4 + 1)) q below, are.there.size)

  arc-onto : (q : ℕ) → q < 4 * length old.crossings → arc_of new.crossings (dart_at (onto by q)) ≡ f (arc_of old.crossings (dart_at q))
  arc-onto q below = grind (arith, nat_tests)

  partner-onto : (q : ℕ) → q < 4 * length old.crossings → partner_at new.crossings (onto by q) ≡ onto by (partner_at old.crossings q)
  partner-onto q below =
      let r = partner_at old.crossings q in
      let other = IsOtherPlace-partner_at old.crossings q old_twice below in
      sym (partner_at-only new.crossings (onto by q) (onto by r) new_twice (onto-below q below)
      (record {
        below = onto-below r other.below;
        differs = λ same. other.differs (sym (onto-back r) ∙ ap (onto home) same ∙ onto-back q);
        same_arc = arc-onto r other.below ∙ ap f other.same_arc ∙ sym (arc-onto q below);
      }))

  faces-carried : Carries (4 * length old.crossings) (4 * length new.crossings) (onto by) (onto home)
      (face_pairs old.crossings) (face_pairs new.crossings)
  faces-carried =
      let n = length old.crossings in
      let k = length new.crossings in
      let face = λ (x : ℕ). slice_index (faces_of new.crossings) x in
      record {
        small = faces-below old.crossings old_twice;
        below = onto-below;
        there = λ x below. onto-back x;
        together = at-respects (λ x. face (onto by x)) (face_pair (partner_at old.crossings)) 0 (4 * n)
            (λ q from q_below.
            let below : q < 4 * n = omega (arith, q_below) in
            respects-at face (face_pair (partner_at new.crossings)) 0 (4 * k)
            (classes-together (4 * k) (face_pairs new.crossings) (faces-below new.crossings new_twice)) (onto by q) (omega arith)
            (omega (arith, onto-below q below))
            ∙ ap (λ r. face (turned r)) (partner-onto q below) ∙ ap face (onto-turned by (partner_at old.crossings q)));
      }

  pieces-carried : Carries (length old.crossings) (length new.crossings) (λ x. x) (λ x. x)
      (piece_pairs old.crossings) (piece_pairs new.crossings)
  pieces-carried =
      let n = length old.crossings in
      let k = length new.crossings in
      let piece = λ (x : ℕ). slice_index (pieces_of new.crossings) x in
      record {
        small = pieces-below old.crossings old_twice;
        below = λ x below. omega (arith, below, are.there.size);
        there = λ x below. refl;
        together = at-respects piece (piece_pair (partner_at old.crossings)) 0 (4 * n)
            (λ q from q_below.
            let below : q < 4 * n = omega (arith, q_below) in
            let r = partner_at old.crossings q in
            ap piece (sym (spun-crossing (by (q / 4 + 1)) q))
            ∙ respects-at piece (piece_pair (partner_at new.crossings)) 0 (4 * k)
            (classes-together k (piece_pairs new.crossings) (pieces-below new.crossings new_twice)) (onto by q) (omega arith)
            (omega (arith, onto-below q below))
            ∙ ap (λ p. piece (p / 4)) (partner-onto q below) ∙ ap piece (spun-crossing (by (r / 4 + 1)) r));
      }

  -- arcs have arcs for their new numbers
  arc-moved : (x : ℕ) → IsArc old.crossings x → IsArc new.crossings (f x)
  arc-moved x is =
      let dart = first_dart old.crossings x in
      let at = IsDartOf-first_dart old.crossings x old_twice is in
      subst (IsArc new.crossings)
      (are.there.arcs dart.crossing dart.slot at.within.crossing at.within.slot ∙ ap f at.on_arc)
      (slot-arc new dart.crossing ((dart.slot + by dart.crossing) % 4) new_twice (moved dart.crossing at.within.crossing) (omega arith))

  name-below : (x : ℕ) → x < arc_count old.crossings + 1 → with_zero f x < arc_count new.crossings + 1
  name-below x below = grind (arith, nat_tests, below, arc-moved)

  name-back : (x : ℕ) → x < arc_count old.crossings + 1 → with_zero back (with_zero f x) ≡ x
  name-back x below = grind (arith, nat_tests)

  pass-carried : (crossing slot : ℕ) → IsCrossing old.crossings crossing → slot < 4
      → slice_index (components_of new.crossings) (with_zero f (arc_at_slot old crossing slot))
      ≡ slice_index (components_of new.crossings) (with_zero f (arc_at_slot old crossing ((slot + 2) % 4)))
  pass-carried crossing slot is below =
      let b = by crossing in
      let component = λ (x : ℕ). slice_index (components_of new.crossings) x in
      let step : (s : ℕ) → s < 4 → with_zero f (arc_at_slot old crossing s) ≡ arc_at_slot new crossing ((s + b) % 4) =
      λ s s_below. with_zero-some f (arc_at_slot old crossing s) (slot-arc old crossing s old_twice is s_below).positive
      ∙ sym (are.there.arcs crossing s is s_below) in
      let across : ((slot + b) % 4 + 2) % 4 ≡ ((slot + 2) % 4 + b) % 4 = omega arith in
      ap component (step slot below)
      ∙ pass-slots component new crossing ((slot + b) % 4)
      (classes-together (arc_count new.crossings + 1) (flat_map passes_of new.crossings) (passes-below new.crossings are.new_directed))
      (moved crossing is) (omega arith)
      ∙ ap (λ s. component (arc_at_slot new crossing s)) across ∙ ap component (sym (step ((slot + 2) % 4) (omega arith)))

  components-carried : Carries (arc_count old.crossings + 1) (arc_count new.crossings + 1) (with_zero f) (with_zero back)
      (flat_map passes_of old.crossings) (flat_map passes_of new.crossings)
  components-carried =
      let component = λ (x : ℕ). slice_index (components_of new.crossings) (with_zero f x) in
      record {
        small = passes-below old.crossings are.old_directed;
        below = name-below;
        there = name-back;
        together = passes-all (λ pair. component pair.0 ≡ component pair.1) old.crossings
            (λ crossing is. (pass-carried crossing 0 is (omega arith), (pass-carried crossing 1 is (omega arith), tt)));
      }

module _ (by home f back : ℕ → ℕ) (old new : Code) (are : AreRotated by home f back old new) where
  abbrev here : AreRotated home by back f new old
  here = AreRotated-back by home f back old new are

  face_count-rotated : face_count new.crossings ≡ face_count old.crossings
  face_count-rotated =
      class_count-carried (4 * length old.crossings) (4 * length new.crossings) (onto by) (onto home) (face_pairs old.crossings)
      (face_pairs new.crossings) (faces-carried by home f back old new are) (faces-carried home by back f new old here)

  piece_count-rotated : piece_count new.crossings ≡ piece_count old.crossings
  piece_count-rotated =
      class_count-carried (length old.crossings) (length new.crossings) (λ x. x) (λ x. x) (piece_pairs old.crossings)
      (piece_pairs new.crossings) (pieces-carried by home f back old new are) (pieces-carried home by back f new old here)

  components-rotated : component_count new.crossings ≡ component_count old.crossings
  components-rotated =
      let old_below = passes-below old.crossings are.old_directed in
      let new_below = passes-below new.crossings are.new_directed in
      let same = class_count-carried (arc_count old.crossings + 1) (arc_count new.crossings + 1) (with_zero f) (with_zero back)
      (flat_map passes_of old.crossings) (flat_map passes_of new.crossings) (components-carried by home f back old new are)
      (components-carried home by back f new old here) in
      omega (arith, same, class_count-components old.crossings old_below, class_count-components new.crossings new_below)

-- the checkerboard
spun_bits : ℕ → (ℕ → ℕ) → List (List ℕ) → List ℕ
spun_bits choice by crossings = map (λ k. (bit choice k + by (k + 1)) % 2) (range_with_len 0 (length crossings))

-- the colours of two places of the new code where those of the old code differ
colours-differ : (choice own b c g h q p : ℕ) → (b + g) % 4 ≡ 0 → (c + h) % 4 ≡ 0 → bit choice (q / 4) ≡ (bit own (q / 4) + b) % 2
    → bit choice (p / 4) ≡ (bit own (p / 4) + c) % 2 → colour own (dart_at (spun h p)) ≢ colour own (dart_at (spun g q))
    → (bit choice (place_of (dart_at q).crossing) + (bit choice (place_of (dart_at p).crossing) + (q % 4 + p % 4))) % 2 ≡ 1
colours-differ choice own b c g h q p q_round p_round q_bit p_bit differ = grind (arith, nat_tests)

IsCheckerboard-rotated : (by home f back : ℕ → ℕ) (old new : Code) → AreRotated by home f back old new → IsCheckerboard old.crossings
    → IsCheckerboard new.crossings
unfolding spun_bits
IsCheckerboard-rotated by home f back old new are board =
    let n = length old.crossings in
    let size = are.there.size in
    let there = AreRotated-back by home f back old new are in
    let old_twice_is = HasArcsTwice-directed old.crossings are.old_directed in
    let new_twice_is = HasArcsTwice-directed new.crossings are.new_directed in
    let coloured = IsColoured-checkerboard old.crossings board old_twice_is in
    let bits = spun_bits board.choice by old.crossings in
    let long : length bits ≡ n = length-map-range_with_len (λ k. (bit board.choice k + by (k + 1)) % 2) 0 n in
    let at : (k : ℕ) → k < n → get_or bits k 0 ≡ (bit board.choice k + by (k + 1)) % 2 =
    λ k below. get_or-map-range_with_len (λ k. (bit board.choice k + by (k + 1)) % 2) 0 n k k 0 below (omega arith) in
    let small : (k : ℕ) → k < length bits → get_or bits k 0 ≤ 1 = λ k within. omega (arith, at k (omega (arith, within, long))) in
    let choice = number_from bits in
    let bit_at : (k : ℕ) → k < n → bit choice k ≡ (bit board.choice k + by (k + 1)) % 2 =
    λ k below. bit-number_from bits k small (omega (arith, below, long)) ∙ at k below in
    record {
      choice = choice;
      below = subst (λ (m : ℕ). choice < 2 ^ m) (long ∙ sym size) (number_from-below bits small);
      solves = list_all-each (solves_at new.crossings choice) 1 (arc_count new.crossings)
          (λ arc from_one below.
          let dart = first_dart new.crossings arc in
          let first = IsDartOf-first_dart new.crossings arc new_twice_is (record { positive = from_one; within = omega (arith, below) }) in
          let q = dart_place dart in
          let q_below = dart_place-below new.crossings dart first.within in
          let p = partner_at new.crossings q in
          let other = IsOtherPlace-partner_at new.crossings q new_twice_is q_below in
          let is : (z : ℕ) → z < 4 * length new.crossings → IsDart old.crossings (dart_at (onto home z)) =
          λ z z_below. IsDart-at old.crossings (onto home z) (onto-below home by back f new old there z z_below) in
          let same_arc : arc_of old.crossings (dart_at (onto home p)) ≡ arc_of old.crossings (dart_at (onto home q)) =
          arc-onto home by back f new old there p other.below ∙ ap back other.same_arc
          ∙ sym (arc-onto home by back f new old there q q_below) in
          let differ : colour board.choice (dart_at (onto home p)) ≢ colour board.choice (dart_at (onto home q)) =
          λ same.
          let one = coloured.once (dart_at (onto home p)) (dart_at (onto home q)) (is p other.below) (is q q_below) same_arc same in
          other.differs (sym (onto-back home by back f new old there p)
          ∙ ap (onto by) (sym (dart_place-at (onto home p)) ∙ ap dart_place one ∙ dart_place-at (onto home q))
          ∙ onto-back home by back f new old there q) in
          let c = q / 4 + 1 in
          let d = p / 4 + 1 in
          eq-eqb
          ((bit choice (place_of dart.crossing)
          + (bit choice (place_of (partner new.crossings dart).crossing) + (dart.slot + (partner new.crossings dart).slot))) % 2) 1
          (ap₂ (λ (d e : Dart). (bit choice (place_of d.crossing) + (bit choice (place_of e.crossing) + (d.slot + e.slot))) % 2)
          (sym (dart_at-place new.crossings dart first.within)) (partner-is new.crossings dart first.within)
          ∙ colours-differ choice board.choice (by c) (by d) (home c) (home d) q p (are.round c) (are.round d)
          (bit_at (q / 4) (omega (arith, q_below, size))) (bit_at (p / 4) (omega (arith, other.below, size))) differ));
    }

-- so the components are as many, and the code is accepted
pub component_count-rotated : (by f back : ℕ → ℕ) (old new : Code) → IsDirected old.crossings → IsDirected new.crossings
    → IsRotated by f back old new → component_count new.crossings ≡ component_count old.crossings
component_count-rotated by f back old new old_directed directed rotated =
    components-rotated by (opposite by) f back old new (AreRotated-from by f back old new old_directed directed rotated)

pub accepted-rotated : (by f back : ℕ → ℕ) (old new : Code) → IsTrue (accepted old) → IsDirected new.crossings
    → IsRotated by f back old new → IsTrue (accepted new)
accepted-rotated by f back old new old_is directed rotated =
    let is = (IsAccepted-is old).0 old_is in
    let home = opposite by in
    let are = AreRotated-from by f back old new is.directed directed rotated in
    (IsAccepted-is new).1 (record {
      directed = directed;
      checkerboard = IsCheckerboard-rotated by home f back old new are is.checkerboard;
      faces = omega (
        arith,
        face_count-rotated by home f back old new are,
        piece_count-rotated by home f back old new are,
        is.faces,
        rotated.size,
      );
      components = omega (arith, components-rotated by home f back old new are, rotated.loops, is.components);
    })
