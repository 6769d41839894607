-- Heads and tails after a slide, by the old signs.
use Rattle.std.proofs.lemmas.Bool.Decides.{nat_tests}
use Rattle.std.proofs.Common.{◌≡◌, ℕ, ◌+◌, ◌*◌, ◌/◌, ◌%◌, ◌<◌, ◌≤◌, ◌∙◌, List, length, refl, sym, ap, subst, arith, Bool, true, false, not, cond}
use Rattle.std.specs.Prelude.{nat_eq, IsTrue, ◌||◌}
use Rattle.kh_types.specs.declared.dart.Dart.{Dart}
use Rattle.kh_types.specs.Code.{Code, IsArc}
use Rattle.kh_types.specs.Darts.{dart_at, dart_place, arc_of, partner_at, partner}
use Rattle.kh_types.specs.Directions.{is_positive, is_head, head_of, tail_of}
use Rattle.kh_types.specs.Acceptance.{accepted}
use Rattle.kh_types.proofs.DartPairs.{dart_at-place, dart_place-at, dart_place-below, IsDart-at, partner-at_place}
use Rattle.kh_types.proofs.Heads.{HasNoSingleArcs-accepted, HasEnds-accepted, is_head-partner}
use Rattle.kh_types.proofs.Ranges.{below_four}
use Rattle.kh_types.proofs.Ways.{not_passed}
use Rattle.slide_laws.specs.Slid.{on, source, slid}
use Rattle.slide_laws.specs.SlideCodes.{is_head_with, IsOnlyDart, HasHeadsAndTails}
use Rattle.slide_laws.proofs.Corners.{at_places, on-crossing, on-slot, on-on, on-zero, source-x, source-rotated, source-outside, source-source, source-below}
use Rattle.slide_laws.proofs.Sides.{HasSides, HasSides-rotated}
use Rattle.slide_laws.proofs.SlidArcs.{length-slid, arc_of-slid}
use Rattle.kh_types.proofs.Tests.{twice-not}

-- a kind of darts that opposite slots and partners do not have together
pub record IsKind (n : ℕ) (partner : ℕ → ℕ) (kind : ℕ → Bool) : Type 0 where
  pub across : (place : ℕ) → kind (on place 2) ≡ not (kind place)
  pub partners : (place : ℕ) → place < 4 * n → kind (partner place) ≡ not (kind place)

-- it goes with the arcs
kind-source_x : (n : ℕ) (partner : ℕ → ℕ) (kind : ℕ → Bool) (x y z : ℕ) → IsKind n partner kind → HasSides n partner x y z
    → (j : ℕ) → j < 4 → kind (source x y z (on x j)) ≡ kind (on x j)
kind-source_x n partner kind x y z is sides =
    let third = sym (ap kind (on-on x 1 2)) ∙ is.across (on x 1) in
    below_four (λ j. kind (source x y z (on x j)) ≡ kind (on x j))
    (ap kind (source-x x y z 0 (omega arith)) ∙ sym (ap kind (on-on y 1 2)) ∙ is.across (on y 1)
    ∙ ap (λ k. not (kind k)) (sym sides.from_x) ∙ ap not (is.partners x sides.x_below) ∙ twice-not (kind x) ∙ sym (ap kind (on-zero x)))
    (ap kind (source-x x y z 1 (omega arith)) ∙ is.across z ∙ sym (is.partners z sides.z_below) ∙ ap kind sides.from_z)
    (ap kind (source-x x y z 2 (omega arith)) ∙ sym (ap kind sides.from_x) ∙ is.partners x sides.x_below ∙ sym (is.across x))
    (ap kind (source-x x y z 3 (omega arith)) ∙ sym (twice-not (kind z))
    ∙ sym (third ∙ ap (λ k. not (kind k)) (sym sides.from_z) ∙ ap not (is.partners z sides.z_below)))

pub kind-source : (n : ℕ) (partner : ℕ → ℕ) (kind : ℕ → Bool) (x y z : ℕ) → IsKind n partner kind → HasSides n partner x y z
    → (place : ℕ) → kind (source x y z place) ≡ kind place
kind-source n partner kind x y z is sides =
    let second = HasSides-rotated n partner x y z sides in
    let third = HasSides-rotated n partner y z x second in
    let once = source-rotated x y z sides.apart in
    let twice = once ∙ source-rotated y z x second.apart in
    at_places x y z (λ place. kind (source x y z place) ≡ kind place)
    (kind-source_x n partner kind x y z is sides)
    (λ j below. ap (λ f. kind (f (on y j))) once ∙ kind-source_x n partner kind y z x is second j below)
    (λ j below. ap (λ f. kind (f (on z j))) twice ∙ kind-source_x n partner kind z x y is third j below)
    (λ place outside. ap kind (source-outside x y z place outside))

-- heads are such a kind

enters_at : Bool → ℕ → Bool
enters_at positive slot = nat_eq slot 0 || nat_eq slot (cond positive 3 1)

across_at : (positive : Bool) (slot : ℕ) → slot < 4 → enters_at positive ((slot + 2) % 4) ≡ not (enters_at positive slot)
unfolding enters_at
across_at true = below_four (λ slot. enters_at true ((slot + 2) % 4) ≡ not (enters_at true slot)) refl refl refl refl
across_at false = below_four (λ slot. enters_at false ((slot + 2) % 4) ≡ not (enters_at false slot)) refl refl refl refl

enters-across : (signs : ℕ → Bool) (place : ℕ) → is_head_with signs (dart_at (on place 2)) ≡ not (is_head_with signs (dart_at place))
unfolding enters_at
enters-across signs place =
    let slot : place % 4 < 4 = omega arith in
    ap (λ k. enters_at (signs (k + 1)) (on place 2 % 4)) (on-crossing place 2)
    ∙ ap (enters_at (signs (place / 4 + 1))) (on-slot place 2)
    ∙ across_at (signs (place / 4 + 1)) (place % 4) slot

pub IsKind-heads : (code : Code) → IsTrue (accepted code)
    → IsKind (length code.crossings) (partner_at code.crossings) (λ place. is_head_with (is_positive code.crossings) (dart_at place))
IsKind-heads code is =
    let crossings = code.crossings in
    let moves = HasNoSingleArcs-accepted code is in
    record {
      across = enters-across (is_positive crossings);
      partners = λ place below.
          ap (λ dart. is_head crossings dart) (sym (partner-at_place crossings place))
          ∙ is_head-partner crossings (dart_at place) moves.0 moves.1 (IsDart-at crossings place below);
    }

-- a dart that is the only one of its kind is so after the slide
only-slid : (crossings : List (List ℕ)) (kind : Dart → Bool) (x y z arc : ℕ) (dart : Dart)
    → HasSides (length crossings) (partner_at crossings) x y z
    → ((place : ℕ) → kind (dart_at (source x y z place)) ≡ kind (dart_at place))
    → IsOnlyDart crossings kind arc dart → IsOnlyDart (slid crossings x y z) kind arc (dart_at (source x y z (dart_place dart)))
only-slid crossings kind x y z arc dart sides keeps only =
    let n = length crossings in
    let new = slid crossings x y z in
    let size = length-slid crossings x y z in
    let back = source-source x y z sides.apart in
    let below = source-below n x y z sides.apart sides.x_below sides.y_below sides.z_below in
    let place = dart_place dart in
    let within : place < 4 * n = dart_place-below crossings dart only.is.within in
    let is_dart = dart_at-place crossings dart only.is.within in
    let to = source x y z place in
    record {
      is = record {
        within = IsDart-at new to (subst (λ (k : ℕ). to < 4 * k) (sym size) (below place within));
        on_arc = arc_of-slid crossings x y z to (below place within) ∙ ap (λ k. arc_of crossings (dart_at k)) (back place)
            ∙ ap (arc_of crossings) is_dart ∙ only.is.on_arc;
      };
      kind_of = keeps place ∙ ap kind is_dart ∙ only.kind_of;
      only = λ other is_other passes.
          let k = dart_place other in
          let k_within : k < 4 * n = subst (λ (m : ℕ). k < 4 * m) size (dart_place-below new other is_other.within) in
          let other_back = dart_at-place new other is_other.within in
          let same = only.only (dart_at (source x y z k))
          (record {
            within = IsDart-at crossings (source x y z k) (below k k_within);
            on_arc = sym (arc_of-slid crossings x y z k k_within) ∙ ap (arc_of new) other_back ∙ is_other.on_arc;
          })
          (keeps k ∙ ap kind other_back ∙ passes) in
          sym other_back
          ∙ ap dart_at (sym (back k) ∙ ap (source x y z) (sym (dart_place-at (source x y z k)) ∙ ap dart_place same));
    }

not-passes : (b : Bool) → not b ≡ true → b ≡ true → ⊥
not-passes b fails passes = grind (arith, nat_tests)

pub HasHeadsAndTails-slid : (code : Code) (x y z : ℕ) → IsTrue (accepted code)
    → HasSides (length code.crossings) (partner_at code.crossings) x y z
    → HasHeadsAndTails (slid code.crossings x y z) (is_positive code.crossings)
HasHeadsAndTails-slid code x y z is sides arc is_arc =
    let crossings = code.crossings in
    let size = length-slid crossings x y z in
    let old_arc : IsArc crossings arc =
    record { positive = is_arc.positive; within = subst (λ (k : ℕ). arc ≤ 2 * k) size is_arc.within } in
    let ends = HasEnds-accepted code is arc old_arc in
    let kind : Dart → Bool = is_head_with (is_positive crossings) in
    let keeps = kind-source (length crossings) (partner_at crossings) (λ place. kind (dart_at place)) x y z (IsKind-heads code is) sides in
    let head : IsOnlyDart crossings kind arc (head_of crossings arc) =
    record { is = ends.head; kind_of = ends.enters; only = ends.one_head } in
    let tail : IsOnlyDart crossings (λ dart. not (kind dart)) arc (tail_of crossings arc) =
    record {
      is = ends.tail;
      kind_of = not_passed (kind (tail_of crossings arc)) ends.leaves;
      only = λ other is_other passes. ends.one_tail other is_other (not-passes (kind other) passes);
    } in (
      (dart_at (source x y z (dart_place (head_of crossings arc))), only-slid crossings kind x y z arc (head_of crossings arc) sides keeps head),
      (
        dart_at (source x y z (dart_place (tail_of crossings arc))),
        only-slid crossings (λ dart. not (kind dart)) x y z arc (tail_of crossings arc) sides (λ place. ap not (keeps place)) tail,
      ),
    )
