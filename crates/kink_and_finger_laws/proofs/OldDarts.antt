-- The darts of an accepted code, by their places.
use Rattle.std.proofs.Common.{◌≡◌, ◌≢◌, ℕ, ◌⊎◌, inl, inr, ◌+◌, ◌-◌, ◌*◌, ◌/◌, ◌%◌, ◌<◌, ◌∙◌, List, sym, ap, arith, Bool, not, length, IsTrue}
use Rattle.std.specs.Prelude.{nat_eq}
use Rattle.std.proofs.lemmas.Bool.Decides.{nat_tests}
use Rattle.kh_types.specs.Bits.{bit}
use Rattle.kh_types.specs.Code.{Code, arc_count}
use Rattle.kh_types.specs.Acceptance.{accepted}
use Rattle.kh_types.specs.Accepted.{IsDirected}
use Rattle.kh_types.specs.Colours.{colour, IsColoured}
use Rattle.kh_types.specs.Darts.{dart_at, dart_place, arc_of, first_dart, partner_at, HasArcsTwice}
use Rattle.kh_types.specs.Directions.{is_head, HasNoSingleArcs, positive_at}
use Rattle.kh_types.proofs.AcceptedLemmas.{HasArcsTwice-accepted}
use Rattle.kh_types.proofs.DartPairs.{dart_place-at, IsDart-at, IsOtherPlace-partner_at, IsPairing-partner_at, partner-at_place, partner_at-only, IsDartOf-first_dart, dart_or_partner}
use Rattle.kh_types.proofs.Heads.{is_head-partner}
use Rattle.face_walk.proofs.FewFaces.{IsPlanar-accepted}
use Rattle.gluing_laws.specs.Arcs.{arc_by_place, enters}
use Rattle.gluing_laws.specs.Codes.{arc_of_dart}
use Rattle.kink_and_finger_laws.specs.Pulls.{IsClosedPlanar, dart_in}
use Rattle.kink_and_finger_laws.proofs.DroppedDarts.{is_code_head, is_colour}
use Rattle.gluing_laws.proofs.DartPairs.{arc_of-dart}

pub IsClosedPlanar-accepted : (code : Code) → IsTrue (accepted code) → IsClosedPlanar (length code.crossings) (partner_at code.crossings)
IsClosedPlanar-accepted code is =
    grind (arith, nat_tests, HasArcsTwice-accepted, IsPairing-partner_at, IsOtherPlace-partner_at, IsPlanar-accepted)

pub arc_of_dart-partner : (crossings : List (List ℕ)) → HasArcsTwice crossings → (x : ℕ) → x < 4 * length crossings
    → arc_of_dart crossings (partner_at crossings x) ≡ arc_of_dart crossings x
arc_of_dart-partner crossings twice x below = grind (arith, nat_tests, arc_of-dart, IsOtherPlace-partner_at)

-- two darts of one name, which are not one, are partners
pub partner-named : (crossings : List (List ℕ)) → HasArcsTwice crossings → (x y : ℕ) → x < 4 * length crossings
    → y < 4 * length crossings → y ≢ x → arc_of_dart crossings y ≡ arc_of_dart crossings x → partner_at crossings x ≡ y
partner-named crossings twice x y x_below y_below differs same =
    sym
    (partner_at-only crossings x y twice x_below
    (record {
      below = y_below;
      differs = differs;
      same_arc = arc_of-dart crossings y ∙ same ∙ sym (arc_of-dart crossings x);
    }))

pub heads-partner : (crossings : List (List ℕ)) → IsDirected crossings → HasNoSingleArcs crossings → (x : ℕ) → x < 4 * length crossings
    → is_code_head crossings (partner_at crossings x) ≡ not (is_code_head crossings x)
heads-partner crossings directed moves x below =
    ap (is_head crossings) (sym (partner-at_place crossings x))
    ∙ is_head-partner crossings (dart_at x) directed moves (IsDart-at crossings x below)

flip : (a b : ℕ) → a % 2 ≢ b % 2 → nat_eq (a % 2) 1 ≡ not (nat_eq (b % 2) 1)
flip a b apart = grind (arith, nat_tests)

pub colours-partner : (crossings : List (List ℕ)) (choice : ℕ) → IsColoured crossings choice → HasArcsTwice crossings → (x : ℕ)
    → x < 4 * length crossings → is_colour choice (partner_at crossings x) ≡ not (is_colour choice x)
colours-partner crossings choice coloured twice x below =
    let y = partner_at crossings x in
    let other = IsOtherPlace-partner_at crossings x twice below in
    let at : (z : ℕ) → colour choice (dart_at z) ≡ (bit choice (z / 4) + z % 4) % 2 =
    λ z. let e : z / 4 + 1 - 1 ≡ z / 4 = omega arith in ap (λ q. (bit choice q + z % 4) % 2) e in
    flip (bit choice (partner_at crossings x / 4) + partner_at crossings x % 4) (bit choice (x / 4) + x % 4)
    (λ alike.
    let same = coloured.once (dart_at (partner_at crossings x)) (dart_at x) (IsDart-at crossings (partner_at crossings x) other.below)
    (IsDart-at crossings x below) other.same_arc (at (partner_at crossings x) ∙ alike ∙ sym (at x)) in
    other.differs (sym (dart_place-at (partner_at crossings x)) ∙ ap dart_place same ∙ dart_place-at x))

-- what partners share is a function of arcs
abbrev pub on_arcs : List (List ℕ) → (ℕ → ℕ) → ℕ → ℕ
on_arcs crossings whole arc = whole (dart_place (first_dart crossings arc))

pub on_arcs-at : (crossings : List (List ℕ)) (whole : ℕ → ℕ) → HasArcsTwice crossings
    → ((x : ℕ) → x < 4 * length crossings → whole (partner_at crossings x) ≡ whole x) → (x : ℕ) → x < 4 * length crossings
    → on_arcs crossings whole (arc_of_dart crossings x) ≡ whole x
on_arcs-at crossings whole twice shared x below =
    let dart = dart_at x in
    let is = IsDart-at crossings x below in
    let arc = arc_of crossings (dart_at x) in
    let first = IsDartOf-first_dart crossings arc twice (twice.slots dart is) in
    ap (on_arcs crossings whole) (sym (arc_of-dart crossings x))
    ∙ elim (dart_or_partner crossings dart (first_dart crossings arc) twice is first.within first.on_arc) [
      | inl same ↦ ap (λ d. whole (dart_place d)) same ∙ ap whole (dart_place-at x)
      | inr mate ↦
          ap (λ d. whole (dart_place d)) (mate ∙ partner-at_place crossings x)
          ∙ ap whole (dart_place-at (partner_at crossings x)) ∙ shared x below
    ]

pub arc_of_dart-below : (crossings : List (List ℕ)) → HasArcsTwice crossings → (x : ℕ) → x < 4 * length crossings
    → arc_of_dart crossings x < arc_count crossings + 1
arc_of_dart-below crossings twice x below =
    let is = twice.slots (dart_at x) (IsDart-at crossings x below) in
    omega (arith, sym (arc_of-dart crossings x), is.within)

-- round a crossing

pub dart_in-slot : (c q : ℕ) → dart_in c q % 4 ≡ q % 4
dart_in-slot c q = omega arith

pub place_in : (c q : ℕ) → dart_in c q / 4 ≡ c
place_in c q = omega arith

pub arc_of_dart-in : (crossings : List (List ℕ)) (c q : ℕ) → arc_of_dart crossings (dart_in c q) ≡ arc_by_place crossings c (q % 4)
arc_of_dart-in crossings c q = grind (arith, nat_tests, place_in c q, dart_in-slot c q)

pub across_cases : (q : ℕ) → (((q % 4 ≡ 0) × ((q + 2) % 4 ≡ 2)) ⊎ ((q % 4 ≡ 1) × ((q + 2) % 4 ≡ 3)))
    ⊎ (((q % 4 ≡ 2) × ((q + 2) % 4 ≡ 0)) ⊎ ((q % 4 ≡ 3) × ((q + 2) % 4 ≡ 1)))
across_cases q = grind arith

enters-across : (b : Bool) (r s : ℕ) → (((r ≡ 0) × (s ≡ 2)) ⊎ ((r ≡ 1) × (s ≡ 3))) ⊎ (((r ≡ 2) × (s ≡ 0)) ⊎ ((r ≡ 3) × (s ≡ 1)))
    → enters b s ≡ not (enters b r)
enters-across b r s at = grind (arith, nat_tests)

pub heads-across : (crossings : List (List ℕ)) (c q : ℕ)
    → is_code_head crossings (dart_in c (q + 2)) ≡ not (is_code_head crossings (dart_in c q))
heads-across crossings c q =
    head-in crossings c (q + 2) ∙ enters-across (positive_at crossings c) (q % 4) ((q + 2) % 4) (across_cases q)
    ∙ ap not (sym (head-in crossings c q))
  where
    head-in : (crossings : List (List ℕ)) (c q : ℕ) → is_code_head crossings (dart_in c q) ≡ enters (positive_at crossings c) (q % 4)
    head-in crossings c q = grind (arith, nat_tests, place_in c q, dart_in-slot c q)

pub colours-next : (choice c q : ℕ) → is_colour choice (dart_in c q) ≡ not (is_colour choice (dart_in c (q + 1)))
colours-next choice c q = grind (arith, nat_tests)

pub dart_in-next : (c q : ℕ) → dart_in c (q + 4) ≡ dart_in c q
dart_in-next c q = omega arith
