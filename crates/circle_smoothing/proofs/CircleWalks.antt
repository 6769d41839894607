-- Walks along the circles of a state: from a dart across the smoothing and on to the other end of the arc, so always on darts of
-- one colour, of which each arc has one. So a step goes from arc to arc by a permutation whose cycles are the circles, and a walk
-- goes round one cycle. It begins at an arc that no walk has met, the least of its circle, and gives the name of this arc to each
-- arc that it leaves; there are fewer others after each step, and when it is back, the circle is done. An arc that has another
-- name begins no walk. The number 0 and the loops are circles of their own. When all arcs have been walked, the classes are the
-- circles of the state, each named by its least number.
use Rattle.std.proofs.lemmas.Bool.Decides.{nat_tests}
use Rattle.std.proofs.Common.{◌≡◌, ◌≢◌, ℕ, zero, suc, inl, inr, ◌+◌, ◌-◌, ◌*◌, ◌<◌, ◌∙◌, List, refl, sym, ap, subst, length, arith, IsTrue, not}
use Rattle.std.specs.Prelude.{nat_eq, slice_index}
use Rattle.std.specs.List.{count_by, range_with_len}
use Rattle.std.proofs.Math.ListN.{set}
use Rattle.std.proofs.lemmas.Bool.{cases_eq}
use Rattle.kh_types.specs.Acceptance.{accepted}
use Rattle.kh_types.specs.Code.{Code, IsArc, arc_count}
use Rattle.kh_types.specs.Circles.{circles_of}
use Rattle.kh_types.specs.Colours.{IsColoured}
use Rattle.kh_types.specs.Darts.{partner_at}
use Rattle.kh_types.specs.Walks.{IsWalked}
use Rattle.kh_types.proofs.AcceptedLemmas.{HasArcsTwice-accepted}
use Rattle.kh_types.proofs.DartColours.{IsColoured-accepted}
use Rattle.kh_types.proofs.DartPairs.{IsOtherPlace-partner_at}
use Rattle.kh_types.proofs.WalkLemmas.{IsOnWalk, IsOnWalk-first, IsOnWalk-more, IsWalked-more, IsWalked-none, IsWalked-skip, unvisited-fewer, walked-all}
use Rattle.circle_smoothing.specs.CircleLists.{AreCircles}
use Rattle.kh_types.specs.CircleSteps.{arc_at, across, circle_step}
use Rattle.kh_types.proofs.CircleCycles.{AreCycles-circles, IsNamed-circles, follower, follower-other, follower-place, one_place}
use Rattle.kh_types.proofs.EdgeNames.{circle-positive}
use Rattle.kh_types.proofs.JoinedSlots.{across-below, across-colour, place_colour}

-- one step from a dart: the dart that follows is one, on the next arc, and of the same colour
record IsNextDart (code : Code) (choice state place next : ℕ) : Type 0 where
  below : next < 4 * length code.crossings
  on_next : arc_at code.crossings next ≡ follower code.crossings choice state (place_colour choice place) (arc_at code.crossings place)
  alike : place_colour choice next ≡ place_colour choice place

IsNextDart-step : (code : Code) (choice state place : ℕ) → IsTrue (accepted code) → IsColoured code.crossings choice
    → place < 4 * length code.crossings → IsNextDart code choice state place (circle_step code.crossings state place)
IsNextDart-step code choice state place is coloured below =
    let crossings = code.crossings in
    let twice = HasArcsTwice-accepted code is in
    let side = place_colour choice place in
    let side_below : side < 2 = omega arith in
    let over = across state place in
    let over_below = across-below (length crossings) state place below in
    let over_colour : place_colour choice over ≡ 1 - side =
    across-colour choice state place side (1 - side) (omega arith) refl in
    let there = IsOtherPlace-partner_at crossings over twice over_below in
    let next = partner_at crossings over in
    let differ : place_colour choice next ≢ place_colour choice over =
    λ same. there.differs (one_place crossings choice next over coloured there.below over_below there.same_arc same) in
    let next_below : place_colour choice next < 2 = omega arith in
    record {
      below = there.below;
      on_next = there.same_arc ∙ sym (follower-place crossings choice state side place twice coloured side_below below refl);
      alike = two_colours (place_colour choice next) side next_below side_below (λ same. differ (same ∙ sym over_colour));
    }
  where
    two_colours : (x side : ℕ) → x < 2 → side < 2 → x ≢ 1 - side → x ≡ side
    two_colours x side x_below side_below differ = omega (arith, x_below, side_below, differ)

-- the walk is at a dart of the arc
pub record IsOnCircle (code : Code) (state : ℕ) (initial classes : List ℕ) (least place arc : ℕ) : Type 0 where
  pub choice : ℕ
  pub coloured : IsColoured code.crossings choice
  pub side : ℕ
  pub other : ℕ
  pub sum : side + other ≡ 1
  pub below : place < 4 * length code.crossings
  pub has_side : place_colour choice place ≡ side
  pub on_arc : arc ≡ arc_at code.crossings place
  pub walk : IsOnWalk (arc_count code.crossings + code.loops + 1) (follower code.crossings choice state side)
      (follower code.crossings choice state other) (circles_of code state) initial classes least arc

name-below : (code : Code) (arc : ℕ) → IsArc code.crossings arc → arc < arc_count code.crossings + code.loops + 1
name-below code arc is = omega (arith, is.within)

pub IsOnCircle-first : (code : Code) (state : ℕ) (classes : List ℕ) (least start place arc : ℕ) → IsTrue (accepted code)
    → IsArc code.crossings least → IsWalked (circles_of code state) classes least → slice_index classes least ≡ least
    → start < 4 * length code.crossings → arc_at code.crossings start ≡ least → place ≡ circle_step code.crossings state start
    → arc ≡ arc_at code.crossings place → IsOnCircle code state classes classes least place arc
IsOnCircle-first code state classes least start place arc is is_arc walked own below on_arc is_place is_arc_of =
    let m = arc_count code.crossings + code.loops + 1 in
    let found = IsColoured-accepted code is in
    let choice = found.0 in
    let side = place_colour choice start in
    let side_below : side < 2 = omega arith in
    let sum : side + (1 - side) ≡ 1 = omega arith in
    let step = IsNextDart-step code choice state start is found.1 below in
    let arc_is : arc ≡ follower code.crossings choice state side least =
    is_arc_of ∙ ap (arc_at code.crossings) is_place ∙ step.on_next ∙ ap (follower code.crossings choice state side) on_arc in
    let first = IsOnWalk-first m (follower code.crossings choice state side) (follower code.crossings choice state (1 - side))
    (circles_of code state) classes least (AreCycles-circles code choice state side (1 - side) is found.1 sum)
    (name-below code least is_arc) walked own in
    record {
      choice = choice;
      coloured = found.1;
      side = side;
      other = 1 - side;
      sum = sum;
      below = omega (arith, step.below, is_place);
      has_side = ap (place_colour choice) is_place ∙ step.alike;
      on_arc = is_arc_of;
      walk = subst (λ (x : ℕ). IsOnWalk m (follower code.crossings choice state side) (follower code.crossings choice state (1 - side))
          (circles_of code state) classes classes least x)
          (sym arc_is) first;
    }

pub IsOnCircle-more : (code : Code) (state : ℕ) (initial classes : List ℕ) (least place arc next next_arc : ℕ) → IsTrue (accepted code)
    → IsArc code.crossings least → arc ≢ least → IsOnCircle code state initial classes least place arc
    → next ≡ circle_step code.crossings state place → next_arc ≡ arc_at code.crossings next
    → IsOnCircle code state initial (set classes arc least) least next next_arc
IsOnCircle-more code state initial classes least place arc next next_arc is is_arc apart on is_next is_arc_of =
    let m = arc_count code.crossings + code.loops + 1 in
    let choice = on.choice in
    let f = follower code.crossings choice state on.side in
    let back = follower code.crossings choice state on.other in
    let step = IsNextDart-step code choice state place is on.coloured on.below in
    let arc_is : next_arc ≡ f arc =
    is_arc_of ∙ ap (arc_at code.crossings) is_next ∙ step.on_next
    ∙ ap (λ s. follower code.crossings choice state s (arc_at code.crossings place)) on.has_side ∙ ap f (sym on.on_arc) in
    record {
      choice = choice;
      coloured = on.coloured;
      side = on.side;
      other = on.other;
      sum = on.sum;
      below = omega (arith, step.below, is_next);
      has_side = ap (place_colour choice) is_next ∙ step.alike ∙ on.has_side;
      on_arc = is_arc_of;
      walk = subst (λ (x : ℕ). IsOnWalk m f back (circles_of code state) initial (set classes arc least) least x) (sym arc_is)
          (IsOnWalk-more m f back (circles_of code state) initial classes least arc
          (AreCycles-circles code choice state on.side on.other is on.coloured on.sum) (name-below code least is_arc) apart on.walk);
    }

-- each step leaves one name fewer that has another class
pub IsOnCircle-fewer : (code : Code) (state : ℕ) (initial classes : List ℕ) (least place arc : ℕ) → arc ≢ least
    → IsOnCircle code state initial classes least place arc
    → count_by (λ class. not (nat_eq class least)) (set classes arc least) < count_by (λ class. not (nat_eq class least)) classes
IsOnCircle-fewer code state initial classes least place arc apart on = grind (arith, nat_tests, unvisited-fewer)

pub IsOnCircle-last : (code : Code) (state : ℕ) (initial classes : List ℕ) (least place arc : ℕ) → IsTrue (accepted code)
    → IsWalked (circles_of code state) initial least → IsOnCircle code state initial classes least place arc → arc ≡ least
    → IsWalked (circles_of code state) classes (least + 1)
IsOnCircle-last code state initial classes least place arc is walked on back_at =
    let m = arc_count code.crossings + code.loops + 1 in
    let f = follower code.crossings on.choice state on.side in
    let back = follower code.crossings on.choice state on.other in
    IsWalked-more m f back (circles_of code state) initial classes least
    (AreCycles-circles code on.choice state on.side on.other is on.coloured on.sum) walked
    (subst (λ (x : ℕ). IsOnWalk m f back (circles_of code state) initial classes least x) back_at on.walk)

-- an arc that is not the least of its circle begins no walk
pub IsWalked-other : (code : Code) (state : ℕ) (classes : List ℕ) (arc : ℕ) → IsTrue (accepted code) → IsArc code.crossings arc
    → IsWalked (circles_of code state) classes arc → slice_index classes arc ≢ arc → IsWalked (circles_of code state) classes (arc + 1)
IsWalked-other code state classes arc is is_arc walked has7 = grind (arith, nat_tests, IsWalked-skip, IsNamed-circles, name-below)

-- what is no arc is a circle of its own
alone : (code : Code) (state : ℕ) (classes : List ℕ) (name : ℕ) → IsTrue (accepted code) → (IsArc code.crossings name → ⊥)
    → name < arc_count code.crossings + code.loops + 1 → IsWalked (circles_of code state) classes name
    → IsWalked (circles_of code state) classes (name + 1)
alone code state classes name is no_arc below walked =
    let m = arc_count code.crossings + code.loops + 1 in
    let circles = circles_of code state in
    let found = IsColoured-accepted code is in
    let f = follower code.crossings found.0 state 0 in
    let back = follower code.crossings found.0 state 1 in
    let are = AreCycles-circles code found.0 state 0 1 is found.1 (omega arith) in
    elim (cases_eq (slice_index classes name) name) [
      | inr other ↦ IsWalked-skip m circles classes name are.named below walked other
      | inl own ↦
          IsWalked-more m f back circles classes classes name are walked
          (subst (λ (x : ℕ). IsOnWalk m f back circles classes classes name x) (follower-other code.crossings found.0 state 0 name no_arc)
          (IsOnWalk-first m f back circles classes name are below walked own))
    ]

alone_from : (count : ℕ) (code : Code) (state : ℕ) (classes : List ℕ) (name : ℕ) → IsTrue (accepted code)
    → 2 * length code.crossings < name → name + count ≡ arc_count code.crossings + code.loops + 1
    → IsWalked (circles_of code state) classes name
    → IsWalked (circles_of code state) classes (arc_count code.crossings + code.loops + 1)
alone_from zero code state classes name is above sum walked = grind (arith, nat_tests)
alone_from (suc count) code state classes name is above sum walked =
    alone_from count code state classes (name + 1) is (omega (arith, above)) (omega (arith, sum))
    (alone code state classes name is (λ is_arc. omega (arith, is_arc.within, above)) (omega (arith, sum)) walked)

-- at first all names are alone, and the number 0 stays so
pub IsWalked-unwalked : (code : Code) (state : ℕ) (classes : List ℕ) → IsTrue (accepted code)
    → classes ≡ range_with_len 0 (arc_count code.crossings + code.loops + 1) → IsWalked (circles_of code state) classes 1
IsWalked-unwalked code state classes is are =
    let one : 0 + 1 ≡ 1 = omega arith in
    subst (λ (p : ℕ). IsWalked (circles_of code state) classes p) one
    (alone code state classes 0 is (λ is_arc. omega (arith, is_arc.positive)) (omega arith)
    (subst (λ (cs : List ℕ). IsWalked (circles_of code state) cs 0) (sym are)
    (IsWalked-none (arc_count code.crossings + code.loops + 1) (circles_of code state) (IsNamed-circles code state is))))

-- when all arcs have been walked, the classes are the circles
pub walked-circles : (code : Code) (state : ℕ) (classes : List ℕ) → IsTrue (accepted code)
    → IsWalked (circles_of code state) classes (2 * length code.crossings + 1) → classes ≡ circles_of code state
walked-circles code state classes is walked =
    walked-all (arc_count code.crossings + code.loops + 1) (circles_of code state) classes (IsNamed-circles code state is)
    (alone_from code.loops code state classes (2 * length code.crossings + 1) is (omega arith) (omega arith) walked)

pub IsWalked-all : (code : Code) (state : ℕ) (classes : List ℕ) (place : ℕ) → place ≡ 2 * length code.crossings
    → IsWalked (circles_of code state) classes (place + 1)
    → IsWalked (circles_of code state) classes (2 * length code.crossings + 1)
IsWalked-all code state classes place all walked = omega arith

-- the circles of a state as a list: each is named by its least number, and the number 0 stands alone
pub AreCircles-walked : (code : Code) (state : ℕ) (classes : List ℕ) → IsTrue (accepted code) → classes ≡ circles_of code state
    → AreCircles classes
AreCircles-walked code state classes is are = grind (arith, nat_tests, IsNamed-circles, circle-positive)

pub ruleset walks = (IsWalked-other)
