-- Crossings over names, each name with two ends, and on the sphere, become an accepted code, with their components, signs and
-- state sum. Numbered anew, two slots have one arc exactly where they had one name: so each dart has the partner that it had, and
-- as faces, pieces and open darts depend on partners alone, the code is on the sphere. Hence it has a checkerboard colouring, and
-- no arc is its own next. Passes and smoothings join arcs as they join names, and as many names stand at crossings as there are
-- arcs: so components and circles are as many as those of the names. The two arcs of an over pass differ, so each crossing keeps
-- its sign. With ones, signs and circles the same in each state, so is the state sum.
use Rattle.std.proofs.lemmas.Bool.Decides.{nat_tests}
use Rattle.std.proofs.Common.{◌≡◌, ◌≢◌, ℕ, suc, ◌+◌, ◌-◌, ◌*◌, ◌/◌, ◌%◌, ◌^◌, ◌<◌, ◌≤◌, ◌∙◌, ℤ, List, [], ◌∷◌, length, map, refl, sym, ap, ap₂, arith, Bool, false, cond, IsTrue}
use Rattle.std.specs.Prelude.{slice_index_or}
use Rattle.std.specs.List.{count_by, flat_map, range_with_len}
use Rattle.std.proofs.lemmas.List.Sums.{sum_by-cons}
use Rattle.kh_types.specs.Acceptance.{accepted}
use Rattle.kh_types.specs.Accepted.{IsDirected}
use Rattle.kh_types.specs.Bits.{ones}
use Rattle.kh_types.specs.Checkerboard.{IsCheckerboard}
use Rattle.kh_types.specs.Circles.{circle_count, smoothings_of}
use Rattle.kh_types.specs.Classes.{classes_of, class_count}
use Rattle.kh_types.specs.Code.{Code, arc_in, slots_of}
use Rattle.kh_types.specs.Components.{component_count, passes_of}
use Rattle.kh_types.specs.Darts.{HasArcsTwice, arc_of, dart_at, partner_at}
use Rattle.kh_types.specs.Directions.{HasNoSingleArcs, is_positive, plus_count, minus_count}
use Rattle.kh_types.specs.Faces.{face_count, planar_face_count}
use Rattle.kh_types.specs.StateSum.{int_sum, state_sum, state_term, term_of}
use Rattle.kh_types.specs.declared.limits.TheConstants.{COMPONENTS}
use Rattle.kh_types.proofs.AcceptedLemmas.{HasArcsTwice-directed, IsAccepted-is}
use Rattle.kh_types.proofs.CircleBound.{ArcsBelow, ArcsBelow-slots, smoothings_of-below, passes_of-below}
use Rattle.kh_types.proofs.ClassCounts.{class_count-components}
use Rattle.kh_types.proofs.DartPairs.{partner_at-only}
use Rattle.kh_types.proofs.Heads.{HasNoSingleArcs-checkerboard}
use Rattle.kh_types.proofs.RangeCounts.{count_by-alike}
use Rattle.face_walk.specs.AddedArcs.{IsPlanar}
use Rattle.face_walk.proofs.FewFaces.{IsPlanar-twice}
use Rattle.kh_types.proofs.RangeImages.{map_range-agree}
use Rattle.face_walk.proofs.Board.{IsCheckerboard-planar}
use Rattle.code_passes.specs.Parts.{Parts, is_positive_at, ArePaired}
use Rattle.gluing_laws.specs.Arcs.{arc_by_place}
use Rattle.orient_arcs.specs.Renumbered.{renumber}
use Rattle.kink_and_finger_laws.specs.DropCircles.{parts_circle_count, parts_plus, parts_minus, parts_term, parts_sum}
use Rattle.kink_and_finger_laws.specs.DropComponents.{parts_component_count}
use Rattle.kink_and_finger_laws.proofs.KinkCircles.{before}
use Rattle.kink_and_finger_laws.proofs.KinkDropSums.{count-later}
use Rattle.kink_and_finger_laws.proofs.StandingNames.{IsOfNames-passes, IsOfNames-smoothings, standing-classes}
use Rattle.gluing_laws.specs.Alike.{AreAlike}
use Rattle.gluing_laws.specs.Glue as glue
use Rattle.orient_arcs.proofs.Bridge.{IsDirected-renumbered, sign-kept}
use Rattle.orient_arcs.proofs.AlikeCrossings.{AreAlike-renumbered, ArcsBelow-places, class_count-alike, class_count-darts}
use Rattle.orient_arcs.proofs.AcceptedParts.{over-apart}
use Rattle.gluing_laws.specs.Codes.{arc_of_dart}
use Rattle.orient_arcs.proofs.DartSmoothings.{dart_passes, passes_of-darts, dart_passes-below}
use Rattle.diagram_moves.specs.Joinable.{IsJoinable}
use Rattle.diagram_moves.proofs.Standing.{standing-count}
use Rattle.gluing_laws.proofs.DartPairs.{arc_of-dart}
use Rattle.kh_types.proofs.IntSums.{int_sum-range_agree}

-- planarity depends on the partners below 4n alone

IsPlanar-alike : (n : ℕ) (partner other : ℕ → ℕ) → ((x : ℕ) → x < 4 * n → other x ≡ partner x) → IsPlanar n partner → IsPlanar n other
IsPlanar-alike n partner other same planar = grind (arith, nat_tests, map_range-agree, count_by-alike)

-- a count over a list, by places
count-list : (xs : List Bool) (g : ℕ → Bool) (a : ℕ) → ((k : ℕ) → k < length xs → g (a + k) ≡ slice_index_or xs k false)
    → count_by g (range_with_len a (length xs)) ≡ count_by (λ (b : Bool). b) xs
count-list [] g a same = refl
count-list (x ∷ xs) g a same =
    let z : a ≡ a + 0 = omega arith in
    let here : cond (g a) 1 0 ≡ cond x 1 0 = ap {B = ℕ} (λ t. cond t 1 0) (ap g z ∙ same 0 (omega arith)) in
    let later : count_by g (range_with_len (a + 1) (length xs)) ≡ count_by (λ (b : Bool). b) xs =
    count-list xs g (a + 1)
    (λ k below. let e : a + 1 + k ≡ a + suc k = omega arith in ap g e ∙ same (suc k) (omega (arith, below))) in
    omega (
      arith,
      here,
      later,
      sum_by-cons (λ y. cond (g y) 1 0) a (range_with_len (a + 1) (length xs)),
      sum_by-cons (λ (b : Bool). cond b 1 0) x xs,
    )

module _ (bound : ℕ) (strands : Parts) (is : IsJoinable bound strands) where
  abbrev crossings : List (List ℕ)
  crossings = strands.crossings

  abbrev new : Code
  new = renumber strands

  paired : ArePaired strands
  paired = is.paired

  pub IsDirected-renumber : IsDirected (renumber strands).crossings
  IsDirected-renumber = IsDirected-renumbered strands paired

  pub AreAlike-renumber : AreAlike strands.crossings (renumber strands).crossings
  AreAlike-renumber = AreAlike-renumbered strands paired

  twice : HasArcsTwice (renumber strands).crossings
  twice = HasArcsTwice-directed new.crossings IsDirected-renumber

  pub partner-renumber : (x : ℕ) → x < 4 * length strands.crossings → partner_at (renumber strands).crossings x ≡ is.partner x
  partner-renumber x below = grind (arith, nat_tests, AreAlike-renumber, partner_at-only, twice, arc_of-dart)

  pub faces-renumber : face_count (renumber strands).crossings ≡ planar_face_count (renumber strands).crossings
  faces-renumber = grind (arith, nat_tests, AreAlike-renumber, IsPlanar-twice, twice, IsPlanar-alike, partner-renumber)

  pub IsCheckerboard-renumber : IsCheckerboard (renumber strands).crossings
  IsCheckerboard-renumber = IsCheckerboard-planar new.crossings twice faces-renumber

  pub HasNoSingleArcs-renumber : HasNoSingleArcs (renumber strands).crossings
  HasNoSingleArcs-renumber = HasNoSingleArcs-checkerboard new.crossings IsDirected-renumber IsCheckerboard-renumber

  -- components

  below-bound : ArcsBelow bound strands.crossings
  below-bound = ArcsBelow-places bound crossings is.names

  new-below : ArcsBelow (2 * length (renumber strands).crossings + 1) (renumber strands).crossings
  new-below = ArcsBelow-slots (2 * length (renumber strands).crossings + 1) new.crossings twice.slots (omega arith)

  pub components-renumber : component_count (renumber strands).crossings + (renumber strands).loops ≡ parts_component_count bound strands
  components-renumber =
      let n = 2 * length (renumber strands).crossings + 1 in
      let size : length (renumber strands).crossings ≡ length strands.crossings = AreAlike-renumber.size in
      let law = class_count-darts bound (2 * length (renumber strands).crossings + 1) crossings new.crossings AreAlike-renumber below-bound new-below
      (dart_passes (length crossings)) (dart_passes-below (length crossings)) in
      let first = ap (λ ps. class_count (classes_of bound ps)) (passes_of-darts crossings) in
      let second = ap (λ ps. class_count (classes_of (2 * length (renumber strands).crossings + 1) ps))
      (passes_of-darts new.crossings ∙ ap (λ k. glue.renamed (arc_of_dart (renumber strands).crossings) (dart_passes k)) size) in
      let count = class_count-components new.crossings (passes_of-below (2 * length (renumber strands).crossings + 1) new.crossings new-below) in
      let standing = standing-classes bound crossings (flat_map passes_of strands.crossings) (passes_of-below bound crossings below-bound)
      (IsOfNames-passes crossings) in
      let names = standing-count bound strands is.paired is.names in
      omega (arith, law, first, second, count, standing, names, size)

  pub IsAccepted-renumber : parts_component_count bound strands ≤ COMPONENTS → IsTrue (accepted (renumber strands))
  IsAccepted-renumber few =
      grind (arith, nat_tests, IsAccepted-is, IsDirected-renumber, IsCheckerboard-renumber, faces-renumber, components-renumber)

  -- signs

  pub over-renumber : (place : ℕ) → place < length strands.crossings → arc_by_place strands.crossings place 1 ≢ arc_by_place strands.crossings place 3
  over-renumber place below same =
      let size : length (renumber strands).crossings ≡ length strands.crossings = AreAlike-renumber.size in
      let first : (4 * place + 1) / 4 + 1 - 1 ≡ place = omega arith in
      let third : (4 * place + 3) / 4 + 1 - 1 ≡ place = omega arith in
      let first_slot : (4 * place + 1) % 4 ≡ 1 = omega arith in
      let third_slot : (4 * place + 3) % 4 ≡ 3 = omega arith in
      let back : place + 1 - 1 ≡ place = omega arith in
      let old_at : (dart slot : ℕ) → dart / 4 + 1 - 1 ≡ place → dart % 4 ≡ slot
      → arc_of crossings (dart_at dart) ≡ arc_by_place crossings place slot =
      λ dart slot p s. ap₂ (λ k l. arc_in (slice_index_or crossings k []) l) p s in
      let new_at : (dart slot : ℕ) → dart / 4 + 1 - 1 ≡ place → dart % 4 ≡ slot
      → arc_of new.crossings (dart_at dart) ≡ arc_in (slots_of new.crossings (place + 1)) slot =
      λ dart slot p s. ap₂ (λ k l. arc_in (slice_index_or new.crossings k []) l) (p ∙ sym back) s in
      over-apart new.crossings IsDirected-renumber HasNoSingleArcs-renumber (place + 1)
      (record { positive = omega arith; within = omega (arith, below, size) })
      (sym (new_at (4 * place + 1) 1 first first_slot)
      ∙ AreAlike-renumber.onward (4 * place + 1) (4 * place + 3) (omega (arith, below)) (omega (arith, below))
      (old_at (4 * place + 1) 1 first first_slot ∙ same ∙ sym (old_at (4 * place + 3) 3 third third_slot))
      ∙ new_at (4 * place + 3) 3 third third_slot)

  pub sign-renumber : (place : ℕ) → place < length strands.crossings
      → is_positive (renumber strands).crossings (place + 1) ≡ is_positive_at strands.positive place
  sign-renumber place below =
      let back : place + 1 - 1 ≡ place = omega arith in
      sign-kept strands paired (place + 1) (record { positive = omega arith; within = omega (arith, below) })
      (λ same. over-renumber place below
      (ap (λ k. arc_by_place crossings k 1) (sym back) ∙ same ∙ ap (λ k. arc_by_place crossings k 3) back))
      ∙ ap (is_positive_at strands.positive) back

  pub plus-renumber : plus_count (renumber strands).crossings ≡ parts_plus strands
  plus-renumber =
      let size : length (renumber strands).crossings ≡ length strands.crossings = AreAlike-renumber.size in
      let e : 0 + 1 ≡ 1 = omega arith in
      ap (λ a. count_by (is_positive (renumber strands).crossings) (range_with_len a (length (renumber strands).crossings))) (sym e)
      ∙ count-later (is_positive (renumber strands).crossings) 0 (length (renumber strands).crossings)
      ∙ ap (λ n. count_by (λ x. is_positive (renumber strands).crossings (x + 1)) (range_with_len 0 n)) (size ∙ sym is.size)
      ∙ count-list strands.positive (λ x. is_positive (renumber strands).crossings (x + 1)) 0
      (λ k below.
      let z : 0 + k ≡ k = omega arith in
      ap (λ x. is_positive (renumber strands).crossings (x + 1)) z ∙ sign-renumber k (omega (arith, below, is.size)))

  pub minus-renumber : minus_count (renumber strands).crossings ≡ parts_minus strands
  minus-renumber = grind (arith, nat_tests, AreAlike-renumber, plus-renumber)

  -- circles and the state sum

  pub circles-renumber : (state : ℕ) → circle_count (renumber strands) state ≡ parts_circle_count bound strands state
  circles-renumber state =
      let n = 2 * length (renumber strands).crossings + 1 in
      let size : length (renumber strands).crossings ≡ length strands.crossings = AreAlike-renumber.size in
      let law = class_count-alike bound (2 * length (renumber strands).crossings + 1) crossings new.crossings AreAlike-renumber below-bound new-below state in
      let standing = standing-classes bound crossings (smoothings_of strands.crossings state)
      (smoothings_of-below bound state crossings below-bound) (IsOfNames-smoothings crossings state) in
      let names = standing-count bound strands is.paired is.names in
      let whole = before (renumber strands) state twice in
      omega (arith, law, standing, names, whole, size)

  pub state_sum-renumber : (exponent : ℤ) → state_sum (renumber strands) exponent ≡ parts_sum bound strands exponent
  state_sum-renumber exponent =
      let size : length (renumber strands).crossings ≡ length strands.crossings = AreAlike-renumber.size in
      ap (λ k. int_sum (map (state_term (renumber strands) exponent) (range_with_len 0 (2 ^ k)))) size
      ∙ int_sum-range_agree (state_term (renumber strands) exponent) (parts_term bound strands exponent) 0 (2 ^ length strands.crossings)
      (λ state from below.
      ap₂ (λ p m. term_of p m exponent (ones (length (renumber strands).crossings) state) (circle_count (renumber strands) state))
      plus-renumber minus-renumber
      ∙ ap₂ (λ k c. term_of (parts_plus strands) (parts_minus strands) exponent (ones k state) c) size (circles-renumber state))
