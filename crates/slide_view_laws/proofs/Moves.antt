-- A slide that is made is a slid code under other numbers.
use Rattle.std.proofs.Common.{◌≡◌, ℕ, ◌+◌, ◌-◌, ◌∙◌, length, refl, sym, ap, ap₂, subst, arith, true, IsTrue}
use Rattle.std.specs.Prelude.{Option, Ok, unwrap_or}
use Rattle.std.specs.List.{count_by, range_with_len}
use Rattle.kh_types.specs.Acceptance.{accepted}
use Rattle.kh_types.specs.Code.{Code}
use Rattle.kh_types.specs.Directions.{is_positive, plus_count}
use Rattle.kh_types.proofs.AcceptedLemmas.{HasArcsTwice-accepted}
use Rattle.kh_types.proofs.RangeCounts.{count_by-alike}
use Rattle.kink_and_finger_laws.proofs.KinkDropSums.{count-later}
use Rattle.orient_arcs.specs.Renumbered.{renumber}
use Rattle.orient_arcs.proofs.AlikeCrossings.{AreAlike-renumbered}
use Rattle.slide_laws.specs.Slid.{slid_code}
use Rattle.slide_laws.specs.Triangles.{dart_at_slot, step, IsTriangle, has_heights}
use Rattle.slide_laws.proofs.FoundTriangles.{IsTriangle-slot, has_heights-slot}
use Rattle.slide_laws.proofs.Sides.{HasSides-triangle}
use Rattle.slide_laws.proofs.SlidArcs.{HasArcsTwice-slid}
use Rattle.slide_laws.proofs.SlidTriangle.{inside_arcs, IsSlid-slid}
use Rattle.diagram_moves.specs.declared.change.Move.TheVariants.{Slide}
use Rattle.diagram_moves.specs.Kept.{IsKeptCode, slid_parts}
use Rattle.diagram_moves.specs.Moved.{moved, slid_at, slid_from}
use Rattle.diagram_moves.specs.MoveFaults.{slide_fault}
use Rattle.diagram_moves.proofs.SlideLemmas.{IsPlaced-none}
use Rattle.diagram_moves.proofs.SlidCodes.{ArePaired-slid, IsKept-slid}
use Rattle.slide_view_laws.specs.SlidMoves.{IsSlidFrom}
use Rattle.slide_view_laws.proofs.Renumbering.{IsRenumberedOnto-alike}
use Rattle.diagram_moves.proofs.BackAgain.{answered-ok}

-- what keeps all crossings with their signs keeps the numbers of signs (as in diagram_moves)
plus-kept_all : (old new : Code) → IsKeptCode old new (λ place. place) (length old.crossings) → plus_count new.crossings
    ≡ plus_count old.crossings
plus-kept_all old new is =
    let e : 0 + 1 ≡ 1 = omega arith in
    ap (λ n. count_by (is_positive new.crossings) (range_with_len 1 n)) is.size
    ∙ ap (λ a. count_by (is_positive new.crossings) (range_with_len a (length old.crossings))) (sym e)
    ∙ count-later (is_positive new.crossings) 0 (length old.crossings)
    ∙ count_by-alike (λ x. is_positive new.crossings (x + 1)) (λ x. is_positive old.crossings (x + 1)) 0 (length old.crossings)
    (λ i from below. is.signs i (omega (arith, below)))
    ∙ sym
    (ap (λ a. count_by (is_positive old.crossings) (range_with_len a (length old.crossings))) (sym e)
    ∙ count-later (is_positive old.crossings) 0 (length old.crossings))

IsSlidFrom-renumbered : (code : Code) (x y z : ℕ) → IsTrue (accepted code) → IsTriangle code.crossings x y z → has_heights x y z ≡ true
    → IsSlidFrom code (renumber (slid_parts code x y z))
IsSlidFrom-renumbered code x y z holds triangle heights =
    let new = renumber (slid_parts code x y z) in
    let after = slid_code code x y z in
    let twice = HasArcsTwice-accepted code holds in
    let sides = HasSides-triangle code.crossings x y z twice triangle in
    let kept = IsKept-slid code x y z holds triangle heights in
    let slid_twice = HasArcsTwice-slid code.crossings x y z twice sides in
    let alike = AreAlike-renumbered (slid_parts code x y z) (ArePaired-slid code x y z holds triangle) in
    let plus = plus-kept_all code new kept in
    record {
      x = x;
      y = y;
      z = z;
      arcs = inside_arcs code.crossings x y z;
      triangle = triangle;
      slid_too = IsSlid-slid code x y z twice sides heights;
      old_twice = twice;
      slid_twice = slid_twice;
      alike = alike;
      renumbered = IsRenumberedOnto-alike after new alike slid_twice (HasArcsTwice-accepted new kept.accepted_too) refl;
      loops = refl;
      accepted_too = kept.accepted_too;
      plus = plus;
      minus = ap₂ (λ n p. n - p) kept.size plus;
    }

pub IsSlidFrom-moved : (code new : Code) (first second third : ℕ) → IsTrue (accepted code) → moved code (Slide first second third) ≡ Ok new
    → IsSlidFrom code new
unfolding moved
IsSlidFrom-moved code new first second third holds same =
    let answer = answered-ok (slide_fault code first second third) (slid_at code first second third) new same in
    let can = IsPlaced-none code first second third answer.0 in
    let x = dart_at_slot first can.slot in
    let y = step code.crossings x in
    let z = step code.crossings y in
    let triangle =
    IsTriangle-slot code.crossings first second third can.slot can.first_crossing can.second_crossing can.third_crossing can.found in
    let heights = has_heights-slot code.crossings first second third can.slot can.found in
    let made : slid_from code first can.slot ≡ new =
    ap (λ (o : Option ℕ). slid_from code first (unwrap_or o 0)) (sym can.found) ∙ answer.1 in
    subst (λ (c : Code). IsSlidFrom code c) made (IsSlidFrom-renumbered code x y z holds triangle heights)
