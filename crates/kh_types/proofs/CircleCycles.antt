-- In a state of an accepted code the circles are the cycles of a permutation of arcs and loops. Each arc has one dart of either
-- colour, and a smoothing joins darts of different colours: so to cross the smoothing from the dart of one colour leads to an arc,
-- and from that arc's dart of the other colour the same way back.
use Rattle.std.proofs.Common.{◌≡◌, ◌≢◌, ℕ, ◌⊎◌, inl, inr, ◌+◌, ◌-◌, ◌*◌, ◌/◌, ◌%◌, ◌<◌, ◌∙◌, List, refl, sym, ap, subst, length, arith, IsTrue, Bool, true, false, cond, ◌&&◌}
use Rattle.std.specs.Prelude.{nat_eq, nat_lt, slice_index}
use Rattle.std.proofs.lemmas.Bool.{cases_eq, eq-eqb, eqb-true, false_from_ne_true}
use Rattle.std.proofs.lemmas.Bool.Decides.{nat_tests}
use Rattle.kh_types.specs.declared.dart.Dart.{Dart}
use Rattle.kh_types.specs.Acceptance.{accepted}
use Rattle.kh_types.specs.Bits.{bit}
use Rattle.kh_types.specs.Code.{Code, IsArc, arc_count}
use Rattle.kh_types.specs.Classes.{AreBelow, IsNamed}
use Rattle.kh_types.specs.Circles.{circles_of, smoothings_of}
use Rattle.kh_types.specs.Colours.{colour, IsColoured}
use Rattle.kh_types.specs.Darts.{arc_of, dart_at, dart_place, first_dart, partner, HasArcsTwice, IsDartOf}
use Rattle.kh_types.proofs.AcceptedLemmas.{HasArcsTwice-accepted}
use Rattle.kh_types.proofs.CircleBound.{ArcsBelow-slots, smoothings_of-below}
use Rattle.kh_types.proofs.ClassLemmas.{classes-finest, classes-together}
use Rattle.kh_types.proofs.DartPairs.{IsDart-at, IsDartOf-first_dart, dart_at-place, dart_place-at, dart_place-below, first_dart_or_partner}
use Rattle.kh_types.proofs.JoinedClasses.{IsNamed-classes_of}
use Rattle.kh_types.proofs.WalkLemmas.{AreCycles}
use Rattle.kh_types.specs.CircleSteps.{arc_at, across}
use Rattle.kh_types.proofs.JoinedSlots.{place_colour, across-across, across-below, across-colour, across-respects, respects-across}

-- darts by places: each slot holds an arc, and two darts of one arc and one colour are one

pub arc-at_place : (crossings : List (List ℕ)) (choice place : ℕ) → IsColoured crossings choice → place < 4 * length crossings
    → IsArc crossings (arc_at crossings place)
arc-at_place crossings choice place coloured below = coloured.arcs (dart_at place) (IsDart-at crossings place below)

pub colour-at_place : (choice place : ℕ) → colour choice (dart_at place) ≡ place_colour choice place
colour-at_place choice place = grind (arith, nat_tests)

pub one_place : (crossings : List (List ℕ)) (choice place other : ℕ) → IsColoured crossings choice → place < 4 * length crossings
    → other < 4 * length crossings → arc_at crossings place ≡ arc_at crossings other
    → place_colour choice place ≡ place_colour choice other → place ≡ other
one_place crossings choice place other coloured below other_below same alike =
    sym (dart_place-at place)
    ∙ ap dart_place
    (coloured.once (dart_at place) (dart_at other) (IsDart-at crossings place below) (IsDart-at crossings other other_below) same
    (colour-at_place choice place ∙ alike ∙ sym (colour-at_place choice other)))
    ∙ dart_place-at other

-- the dart of a colour on an arc
abbrev sided_dart : List (List ℕ) → ℕ → ℕ → ℕ → Dart
sided_dart crossings choice side arc =
    cond (nat_eq (colour choice (first_dart crossings arc)) side) (first_dart crossings arc)
    (partner crossings (first_dart crossings arc))

-- by its place
abbrev pub sided : List (List ℕ) → ℕ → ℕ → ℕ → ℕ
sided crossings choice side arc = dart_place (sided_dart crossings choice side arc)

-- it is the one dart of that colour on the arc
sided_dart-is : (crossings : List (List ℕ)) (choice side arc : ℕ) (dart : Dart) → HasArcsTwice crossings → IsColoured crossings choice
    → IsArc crossings arc → IsDartOf crossings arc dart → colour choice dart ≡ side → sided_dart crossings choice side arc ≡ dart
sided_dart-is crossings choice side arc dart twice coloured is is_dart is_side =
    let first = first_dart crossings arc in
    elim (cases_eq (colour choice first) side) [
      | inl alike ↦
          let first_is = IsDartOf-first_dart crossings arc twice is in
          ap (λ b. cond b first (partner crossings first)) (eq-eqb (colour choice first) side alike)
          ∙ coloured.once first dart first_is.within is_dart.within (first_is.on_arc ∙ sym is_dart.on_arc) (alike ∙ sym is_side)
      | inr differs ↦
          ap (λ b. cond b first (partner crossings first))
          (false_from_ne_true (nat_eq (colour choice first) side) (λ same. differs (eqb-true (colour choice first) side same)))
          ∙ elim (first_dart_or_partner crossings arc dart twice is is_dart) [
            | inl is_first ↦ absurd (differs (ap (colour choice) (sym is_first) ∙ is_side))
            | inr is_partner ↦ sym is_partner
          ]
    ]

-- the place of that dart
pub record IsSided (crossings : List (List ℕ)) (choice side arc place : ℕ) : Type 0 where
  pub below : place < 4 * length crossings
  pub on_arc : arc_at crossings place ≡ arc
  pub has_side : place_colour choice place ≡ side

pub IsSided-sided : (crossings : List (List ℕ)) (choice side arc : ℕ) → HasArcsTwice crossings → IsColoured crossings choice
    → IsArc crossings arc → side < 2 → IsSided crossings choice side arc (sided crossings choice side arc)
IsSided-sided crossings choice side arc twice coloured is below =
    let found = coloured.both arc side is below in
    let dart = found.0 in
    let within = found.1.within in
    let back = dart_at-place crossings dart within in
    subst (λ (d : Dart). IsSided crossings choice side arc (dart_place d))
    (sym (sided_dart-is crossings choice side arc dart twice coloured is found.1 found.2))
    (record {
      below = dart_place-below crossings dart within;
      on_arc = ap (λ d. arc_of crossings d) back ∙ found.1.on_arc;
      has_side = sym (colour-at_place choice (dart_place dart)) ∙ ap (colour choice) back ∙ found.2;
    })

pub sided-only : (crossings : List (List ℕ)) (choice side arc place : ℕ) → HasArcsTwice crossings → IsColoured crossings choice
    → IsArc crossings arc → side < 2 → IsSided crossings choice side arc place → sided crossings choice side arc ≡ place
sided-only crossings choice side arc place twice coloured is below sided_is =
    let there = IsSided-sided crossings choice side arc twice coloured is below in
    one_place crossings choice (sided crossings choice side arc) place coloured there.below sided_is.below
    (there.on_arc ∙ sym sided_is.on_arc) (there.has_side ∙ sym sided_is.has_side)

-- whether a number is one of an arc
abbrev is_arc : List (List ℕ) → ℕ → Bool
is_arc crossings name = nat_lt 0 name && nat_lt name (2 * length crossings + 1)

pub arc_or_not : (crossings : List (List ℕ)) (name : ℕ)
    → (IsArc crossings name × (is_arc crossings name ≡ true)) ⊎ ((IsArc crossings name → ⊥) × (is_arc crossings name ≡ false))
arc_or_not crossings name = grind (arith, nat_tests)

-- the arc that follows on a circle in one of the two directions: that of the dart across from the arc's dart of a colour; what is
-- no arc stays
abbrev pub follower : List (List ℕ) → ℕ → ℕ → ℕ → ℕ → ℕ
follower crossings choice state side name =
    cond (is_arc crossings name) (arc_at crossings (across state (sided crossings choice side name))) name

pub follower-arc : (crossings : List (List ℕ)) (choice state side name : ℕ) → IsArc crossings name
    → follower crossings choice state side name ≡ arc_at crossings (across state (sided crossings choice side name))
follower-arc crossings choice state side name is = grind (arith, nat_tests)

pub follower-other : (crossings : List (List ℕ)) (choice state side name : ℕ) → (IsArc crossings name → ⊥)
    → follower crossings choice state side name ≡ name
follower-other crossings choice state side name other = grind (arith, nat_tests)

-- the arc behind a dart of the colour
pub follower-place : (crossings : List (List ℕ)) (choice state side place : ℕ) → HasArcsTwice crossings → IsColoured crossings choice
    → side < 2 → place < 4 * length crossings → place_colour choice place ≡ side
    → follower crossings choice state side (arc_at crossings place) ≡ arc_at crossings (across state place)
follower-place crossings choice state side place twice coloured below place_below is_side =
    let is = arc-at_place crossings choice place coloured place_below in
    follower-arc crossings choice state side (arc_at crossings place) is
    ∙ ap (λ p. arc_at crossings (across state p))
    (sided-only crossings choice side (arc_at crossings place) place twice coloured is below
    (record { below = place_below; on_arc = refl; has_side = is_side }))

IsArc-follower : (crossings : List (List ℕ)) (choice state side arc : ℕ) → HasArcsTwice crossings → IsColoured crossings choice
    → side < 2 → IsArc crossings arc → IsArc crossings (follower crossings choice state side arc)
IsArc-follower crossings choice state side arc twice coloured below is =
    grind (arith, nat_tests, below, IsSided-sided, follower-arc, arc-at_place, across-below)

follower-below : (crossings : List (List ℕ)) (choice state side m name : ℕ) → HasArcsTwice crossings → IsColoured crossings choice
    → side < 2 → 2 * length crossings < m → name < m → follower crossings choice state side name < m
follower-below crossings choice state side m name twice coloured below enough name_below =
    grind (arith, nat_tests, below, arc_or_not, IsArc-follower, follower-other)

-- the other direction leads back
follower-back : (crossings : List (List ℕ)) (choice state side other name : ℕ) → HasArcsTwice crossings → IsColoured crossings choice
    → side + other ≡ 1 → follower crossings choice state other (follower crossings choice state side name) ≡ name
follower-back crossings choice state side other name twice coloured sum = elim (arc_or_not crossings name) [
  | inl arc ↦
      let place = sided crossings choice side name in
      let there = IsSided-sided crossings choice side name twice coloured arc.0 (omega (arith, sum)) in
      ap (λ z. follower crossings choice state other z) (follower-arc crossings choice state side name arc.0)
      ∙ follower-place crossings choice state other (across state place) twice coloured (omega (arith, sum))
      (across-below (length crossings) state place there.below) (across-colour choice state place side other sum there.has_side)
      ∙ ap (λ p. arc_at crossings p) (across-across state place) ∙ there.on_arc
  | inr none ↦
      ap (λ z. follower crossings choice state other z) (follower-other crossings choice state side name none.0)
      ∙ follower-other crossings choice state other name none.0
]

-- the pairs that smoothings join are pairs of names
pub smoothings-below : (code : Code) (state : ℕ) → IsTrue (accepted code)
    → AreBelow (arc_count code.crossings + code.loops + 1) (smoothings_of code.crossings state)
smoothings-below code state is =
    smoothings_of-below (arc_count code.crossings + code.loops + 1) state code.crossings
    (ArcsBelow-slots (arc_count code.crossings + code.loops + 1) code.crossings (HasArcsTwice-accepted code is).slots (omega arith))

pub IsNamed-circles : (code : Code) (state : ℕ) → IsTrue (accepted code)
    → IsNamed (arc_count code.crossings + code.loops + 1) (circles_of code state)
IsNamed-circles code state is =
    IsNamed-classes_of (arc_count code.crossings + code.loops + 1) (smoothings_of code.crossings state) (smoothings-below code state is)

-- the arcs of a dart and of the dart across are on one circle
pub circles-across : (code : Code) (state place : ℕ) → IsTrue (accepted code) → place < 4 * length code.crossings
    → slice_index (circles_of code state) (arc_at code.crossings (across state place))
    ≡ slice_index (circles_of code state) (arc_at code.crossings place)
circles-across code state place is below =
    across-respects (λ x. slice_index (circles_of code state) x) code.crossings state
    (classes-together (arc_count code.crossings + code.loops + 1) (smoothings_of code.crossings state) (smoothings-below code state is))
    place below

-- what each step in one direction keeps has one value at the arcs of a dart and of the dart across
keeps-across : (crossings : List (List ℕ)) (choice state side m : ℕ) (g : ℕ → ℕ) → HasArcsTwice crossings → IsColoured crossings choice
    → side < 2 → 2 * length crossings < m → ((x : ℕ) → x < m → g x ≡ g (follower crossings choice state side x))
    → (place : ℕ) → place < 4 * length crossings → g (arc_at crossings (across state place)) ≡ g (arc_at crossings place)
keeps-across crossings choice state side m g twice coloured side_below enough keeps place below =
    let other = across state place in
    let other_below = across-below (length crossings) state place below in
    let is = arc-at_place crossings choice place coloured below in
    let other_is = arc-at_place crossings choice other coloured other_below in
    let step = λ (p : ℕ) (p_below : p < 4 * length crossings) (p_side : place_colour choice p ≡ side).
    keeps (arc_at crossings p) (omega (arith, (arc-at_place crossings choice p coloured p_below).within, enough))
    ∙ ap g (follower-place crossings choice state side p twice coloured side_below p_below p_side) in
    elim (cases_eq (place_colour choice place) side) [
      | inl alike ↦ sym (step place below alike)
      | inr differs ↦
          let opposite : place_colour choice place ≡ 1 - side =
          opposite_of (bit choice (place / 4) + place % 4) side side_below differs in
          step other other_below (across-colour choice state place (1 - side) side (omega (arith, side_below)) opposite)
          ∙ ap (λ p. g (arc_at crossings p)) (across-across state place)
    ]
  where
    opposite_of : (x side : ℕ) → side < 2 → x % 2 ≢ side → x % 2 ≡ 1 - side
    opposite_of x side below differs = let small : x % 2 < 2 = omega arith in grind arith

-- the circles are the cycles of the steps in either direction
pub AreCycles-circles : (code : Code) (choice state side other : ℕ) → IsTrue (accepted code) → IsColoured code.crossings choice
    → side + other ≡ 1
    → AreCycles (arc_count code.crossings + code.loops + 1) (follower code.crossings choice state side)
    (follower code.crossings choice state other) (circles_of code state)
AreCycles-circles code choice state side other is coloured sum =
    let crossings = code.crossings in
    let m = arc_count crossings + code.loops + 1 in
    let twice = HasArcsTwice-accepted code is in
    let enough : 2 * length crossings < m = omega arith in
    let side_below : side < 2 = omega (arith, sum) in
    let other_below : other < 2 = omega (arith, sum) in
    let turned_sum : other + side ≡ 1 = omega (arith, sum) in
    record {
      below = λ x below. follower-below crossings choice state side m x twice coloured side_below enough below;
      back_below = λ x below. follower-below crossings choice state other m x twice coloured other_below enough below;
      back_f = λ x below. follower-back crossings choice state side other x twice coloured sum;
      f_back = λ x below. follower-back crossings choice state other side x twice coloured turned_sum;
      named = IsNamed-circles code state is;
      step = λ x below. elim (arc_or_not crossings x) [
        | inl arc ↦
            let there = IsSided-sided crossings choice side x twice coloured arc.0 side_below in
            ap (λ z. slice_index (circles_of code state) z) (follower-arc crossings choice state side x arc.0)
            ∙ circles-across code state (sided crossings choice side x) is there.below
            ∙ ap (λ z. slice_index (circles_of code state) z) there.on_arc
        | inr none ↦ ap (λ z. slice_index (circles_of code state) z) (follower-other crossings choice state side x none.0)
      ];
      finest = λ g keeps.
          classes-finest g m (smoothings_of crossings state)
          (respects-across g crossings state (keeps-across crossings choice state side m g twice coloured side_below enough keeps))
          (smoothings-below code state is);
    }
