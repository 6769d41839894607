-- Two directed codes are accepted where their union is.
--
-- Faces, pieces and components of both add up to those of the union. Neither code has more faces than the sphere allows, so where the union
-- has all of them, both do. A checkerboard choice of the union is one for each code: its low bits and its high bits.
use Rattle.std.proofs.Common.{◌≡◌, ◌≢◌, ℕ, ◌+◌, ◌-◌, ◌*◌, ◌%◌, ◌/◌, ◌^◌, ◌<◌, ◌∙◌, List, length, true, sym, subst, ap, ap₂, arith, IsTrue}
use Rattle.std.proofs.lemmas.Bool.{eq-eqb}
use Rattle.kh_types.specs.declared.dart.Dart.{Dart}
use Rattle.kh_types.specs.Acceptance.{accepted}
use Rattle.kh_types.specs.Accepted.{IsAccepted, IsDirected}
use Rattle.kh_types.specs.Bits.{bit}
use Rattle.kh_types.specs.Checkerboard.{IsCheckerboard, solves_at}
use Rattle.kh_types.specs.Code.{Code, IsArc, arc_count, place_of}
use Rattle.kh_types.specs.Colours.{IsColoured, colour}
use Rattle.kh_types.specs.Darts.{HasArcsTwice, IsDart, arc_of, first_dart, partner}
use Rattle.kh_types.specs.Faces.{face_count, planar_face_count}
use Rattle.kh_types.proofs.AcceptedLemmas.{HasArcsTwice-directed, IsAccepted-is}
use Rattle.kh_types.proofs.DartColours.{IsColoured-checkerboard}
use Rattle.kh_types.proofs.DartPairs.{IsDartOf-first_dart, IsOtherDart-partner}
use Rattle.kh_types.proofs.RangeCounts.{list_all-each}
use Rattle.kh_types.proofs.JointNumbers.{inside-below, outside-below, bit-low, bit-high}
use Rattle.face_walk.proofs.FewFaces.{face_count-le}
use Rattle.link_algebra.specs.Unions.{union_of}
use Rattle.link_algebra.proofs.UnitedAccepted.{component_count-both, face_count-both, piece_count-both}
use Rattle.link_algebra.proofs.UnitedCircles.{length-both}
use Rattle.link_algebra.proofs.UnitedComponents.{IsPart}
use Rattle.link_algebra.proofs.UnitedDirected.{AreUnited, AreUnited-from}

-- a choice for a code, of whose crossings a part stands behind some others, and the choice that it is for the part
module _ (before : ℕ) (part whole : List (List ℕ)) (choice own : ℕ) (is : IsPart before part whole) (twice : HasArcsTwice part)
    (coloured : IsColoured whole choice)
    (bits : (place : ℕ) → place < length part → bit own place ≡ bit choice (before + place)) where
  -- a dart of the part as one of the code
  abbrev raised : Dart → Dart
  raised dart = record { crossing = before + dart.crossing; slot = dart.slot }

  IsDart-raised : (dart : Dart) → IsDart part dart → IsDart whole (raised dart)
  IsDart-raised dart within = record {
    crossing = record {
      positive = omega (arith, within.crossing.positive);
      within = omega (arith, within.crossing.within, is.fits);
    };
    slot = within.slot;
  }

  arc-raised : (dart : Dart) → IsDart part dart → arc_of whole (raised dart) ≡ arc_of part dart + 2 * before
  arc-raised dart within = is.arcs dart.crossing dart.slot within.crossing within.slot

  colour-raised : (dart : Dart) → IsDart part dart → colour choice (raised dart) ≡ colour own dart
  colour-raised dart within =
      let e : before + dart.crossing - 1 ≡ before + place_of dart.crossing = omega (arith, within.crossing.positive) in
      ap (λ b. (b + dart.slot) % 2)
      (ap (bit choice) e ∙ sym (bits (place_of dart.crossing) (omega (arith, within.crossing.positive, within.crossing.within))))

  -- so the two darts of an arc of the part differ in colour
  colours-differ : (dart other : Dart) → IsDart part dart → IsDart part other → arc_of part other ≡ arc_of part dart → other ≢ dart
      → colour own dart ≢ colour own other
  colours-differ dart other within other_within same_arc differs same =
      let one = coloured.once (raised dart) (raised other) (IsDart-raised dart within) (IsDart-raised other other_within)
      (arc-raised dart within ∙ ap (λ arc. arc + 2 * before) (sym same_arc) ∙ sym (arc-raised other other_within))
      (colour-raised dart within ∙ same ∙ sym (colour-raised other other_within)) in
      differs (ap₂ made (omega (arith, ap (λ (d : Dart). d.crossing) one)) (sym (ap (λ (d : Dart). d.slot) one)))
    where
      made : ℕ → ℕ → Dart
      made crossing slot = record { crossing = crossing; slot = slot }

  solves-part : (arc : ℕ) → IsArc part arc → solves_at part own arc ≡ true
  solves-part arc is_arc =
      let dart = first_dart part arc in
      let first = IsDartOf-first_dart part arc twice is_arc in
      let other = partner part dart in
      let second = IsOtherDart-partner part dart twice first.within in
      eq-eqb ((bit own (place_of dart.crossing) + (bit own (place_of other.crossing) + (dart.slot + other.slot))) % 2) 1
      (odd_sum (bit own (place_of dart.crossing)) (bit own (place_of other.crossing)) dart.slot other.slot
      (colours-differ dart other first.within second.within second.same_arc second.differs))
    where
      odd_sum : (x y s t : ℕ) → (x + s) % 2 ≢ (y + t) % 2 → (x + (y + (s + t))) % 2 ≡ 1
      odd_sum x y s t differ = omega (arith, differ)

  IsCheckerboard-part : own < 2 ^ length part → IsCheckerboard part
  IsCheckerboard-part small = record {
    choice = own;
    below = small;
    solves = list_all-each (solves_at part own) 1 (arc_count part)
        (λ arc from below. solves-part arc (record { positive = from; within = omega (arith, below) }));
  }

-- what is known of two directed codes, and of their union where it is accepted
module _ (first second : Code) (first_is : IsDirected first.crossings) (second_is : IsDirected second.crossings)
    (holds : IsTrue (accepted (union_of first second))) where
  abbrev n : ℕ
  n = length first.crossings

  abbrev whole : List (List ℕ)
  whole = (union_of first second).crossings

  is_whole : IsAccepted (union_of first second)
  is_whole = (IsAccepted-is (union_of first second)).0 holds

  are : AreUnited first second
  are = AreUnited-from first second first_is second_is

  first_twice : HasArcsTwice first.crossings
  first_twice = HasArcsTwice-directed first.crossings first_is

  second_twice : HasArcsTwice second.crossings
  second_twice = HasArcsTwice-directed second.crossings second_is

  whole_twice : HasArcsTwice whole
  whole_twice = HasArcsTwice-directed whole is_whole.directed

  faces-parts : (face_count first.crossings ≡ planar_face_count first.crossings)
      × (face_count second.crossings ≡ planar_face_count second.crossings)
  faces-parts =
      let faces = face_count-both first second are whole_twice in
      let pieces = piece_count-both first second are whole_twice in
      let most = face_count-le first.crossings first_twice in
      let second_most = face_count-le second.crossings second_twice in
      let size = length-both first second in
      let all = is_whole.faces in
      (omega (arith, faces, pieces, most, second_most, size, all), omega (arith, faces, pieces, most, second_most, size, all))

  coloured : IsColoured whole is_whole.checkerboard.choice
  coloured = IsColoured-checkerboard whole is_whole.checkerboard whole_twice

  checkerboard-first : IsCheckerboard first.crossings
  checkerboard-first =
      let choice = is_whole.checkerboard.choice in
      IsCheckerboard-part 0 first.crossings whole choice (choice % 2 ^ n) are.one first_twice coloured
      (λ place below. bit-low n choice place below ∙ (let e : place ≡ 0 + place = omega arith in ap (bit choice) e)) (inside-below n choice)

  checkerboard-second : IsCheckerboard second.crossings
  checkerboard-second =
      let choice = is_whole.checkerboard.choice in
      IsCheckerboard-part n second.crossings whole choice (choice / 2 ^ n) are.two second_twice coloured
      (λ place below. bit-high n choice place)
      (outside-below n (length second.crossings) choice
      (subst (λ (m : ℕ). choice < 2 ^ m) (length-both first second) is_whole.checkerboard.below))

  pub parts-accepted : IsTrue (accepted first) × IsTrue (accepted second)
  parts-accepted =
      let components = component_count-both first second first_is second_is in
      let few = is_whole.components in (
        (IsAccepted-is first).1 (record {
          directed = first_is;
          checkerboard = checkerboard-first;
          faces = faces-parts.0;
          components = omega (arith, components, few);
        }),
        (IsAccepted-is second).1 (record {
          directed = second_is;
          checkerboard = checkerboard-second;
          faces = faces-parts.1;
          components = omega (arith, components, few);
        }),
      )
