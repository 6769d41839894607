-- The surface outside, laid over that which a crossing adds.
--
-- The one has the places that are alive after the crossing, the other those near it; a place of both is open after the crossing. On either
-- side such an arc is in the component of a disc of the new pairings: so the two meet along these discs (`MeetAlong-discs`), and all that
-- they are made of lies at their places.
use Rattle.std.proofs.Common.{ℕ, ◌+◌, ◌<◌, List, [], ◌++◌, refl, sym, arith, Bool}
use Rattle.std.specs.List.{AllByRecursion, Contains}
use Rattle.std.proofs.lemmas.Bool.{eq-eqb}
use Rattle.kh_types.specs.Classes.{classes_of, is_least, Respects}
use Rattle.kh_types.proofs.ClassLemmas.{classes-together, classes-finest, Respects-append, Respects-first, Respects-second}
use Rattle.kh_types.proofs.Lists.{Contains-filter, AllByRecursion-append}
use Rattle.surface_laws.specs.Surfaces.{Surface, component_of, IsPlaced}
use Rattle.surface_laws.specs.Overlays.{MeetAlong}
use Rattle.surface_laws.proofs.TwoSides.{AllByRecursion-map}
use Rattle.surface_laws.specs.Points.{AreAmong, least_points, discs}
use Rattle.added_crossing_laws.specs.Pairings.{face_with, marked_by, circle_faces}
use Rattle.added_crossing_laws.specs.Steps.{Step, those, before, after, is_near, near, closed_circles, added, outside}
use Rattle.added_crossing_laws.proofs.Members.{IsOneOf, filter-kept, those-are, are-those, All-contained}
use Rattle.added_crossing_laws.proofs.Classes.{class_in, AreAmong-wider, AreAmong-append, AreAmong-below, class-own, class-is}
use Rattle.added_crossing_laws.proofs.CutJoins.{IsCut, both-open, open-alive, open-near, outside-among}

-- two pairings before and after, with joins near the crossing on either side, and with faces and strips near it
pub record IsLaid (step : Step) (joins others pairs other_pairs outer all : List (ℕ × ℕ)) : Type 0 where
  pub first : IsCut step joins pairs outer
  pub second : IsCut step others other_pairs outer
  pub onward : (f : ℕ → ℕ) → Respects f all → Respects f (joins ++ (others ++ outer))
  pub back : (f : ℕ → ℕ) → Respects f (joins ++ (others ++ outer)) → Respects f all
  pub among : AreAmong (before step).alive all

pub record LiesNear (step : Step) (faces : List (ℕ × ℕ)) (lowers : List ℕ) : Type 0 where
  pub faces_near : AllByRecursion (λ face. Contains (near step) face.0) faces
  pub lowers_near : AllByRecursion (λ x. Contains (near step) x) lowers

-- the whole
abbrev pub all_of : Step → List (ℕ × ℕ) → List (ℕ × ℕ) → List (ℕ × ℕ) → List (ℕ × ℕ) → List (ℕ × ℕ) → List ℕ
    → (ℕ → ℕ) → (ℕ → ℕ) → Surface
all_of step all joins others outer faces lowers label other_label = record {
  size = step.count + 1;
  places = (before step).alive;
  joins = all;
  faces = faces ++ circle_faces (before step) joins others outer label other_label;
  lowers = lowers;
  raises = [];
}

-- everything lies at places

those-below : (count : ℕ) (test : ℕ → Bool) → AllByRecursion (λ x. x < count + 1) (those count test)
those-below count test =
    All-contained (λ x. x < count + 1) (those count test) (λ x has. omega (arith, (those-are count test x has).below))

pub marked-among : (points places : List ℕ) (marks : ℕ → ℕ) → ((x : ℕ) → Contains points x → Contains places x)
    → AllByRecursion (λ face. Contains places face.0) (marked_by marks points)
marked-among points places marks wider =
    AllByRecursion-map (λ face. Contains places face.0) (face_with marks) points
    (All-contained (λ x. Contains places x) points wider)

circles-alive : (count : ℕ) (opened : List ℕ) (test : ℕ → Bool) (m w : List (ℕ × ℕ)) (x : ℕ)
    → Contains (least_points (count + 1) (those count test) (m ++ w)) x → Contains (those count test) x
circles-alive count opened test m w x has =
    (filter-kept (is_least (classes_of (count + 1) (m ++ w))) (those count test) x has).has

circle_faces-among : (count : ℕ) (opened : List ℕ) (test : ℕ → Bool) (m n w : List (ℕ × ℕ)) (label other_label : ℕ → ℕ)
    → AllByRecursion (λ face. Contains (those count test) face.0)
    (circle_faces record { size = count + 1; opened = opened; alive = those count test } m n w label other_label)
circle_faces-among count opened test m n w label other_label =
    AllByRecursion-append (λ face. Contains (those count test) face.0)
    (marked_by label (least_points (count + 1) (those count test) (m ++ w)))
    (marked_by other_label (least_points (count + 1) (those count test) (n ++ w)))
    (marked-among (least_points (count + 1) (those count test) (m ++ w)) (those count test) label
    (circles-alive count opened test m w))
    (marked-among (least_points (count + 1) (those count test) (n ++ w)) (those count test) other_label
    (circles-alive count opened test n w))

closed-near : (step : Step) (joins : List (ℕ × ℕ)) (x : ℕ) → Contains (closed_circles step joins) x → Contains (near step) x
closed-near step joins x has =
    (filter-kept (is_least (classes_of (step.count + 1) joins)) (near step) x
    (filter-kept (λ c. _) (least_points (step.count + 1) (near step) joins) x has).has).has

pub IsPlaced-outside : (step : Step) (joins others pairs other_pairs outer all : List (ℕ × ℕ)) (label other_label : ℕ → ℕ)
    → IsLaid step joins others pairs other_pairs outer all
    → IsPlaced (outside step pairs other_pairs outer label other_label)
IsPlaced-outside step joins others pairs other_pairs outer all label other_label laid = record {
  joins = AllByRecursion-append (λ pair. (pair.0 < step.count + 1) × (pair.1 < step.count + 1)) pairs (other_pairs ++ outer)
      (AreAmong-below step.count step.opened_next pairs laid.first.made.among)
      (AreAmong-below step.count step.alive_next (other_pairs ++ outer)
      (outside-among step others other_pairs outer laid.second));
  places = those-below step.count step.alive_next;
  faces = circle_faces-among step.count (after step).opened step.alive_next pairs other_pairs outer label other_label;
  lowers = All-contained (λ x. Contains (after step).alive x) (after step).opened
      (λ x has. open-alive step x laid.first.step_is has);
  raises = tt;
}

pub IsPlaced-added : (step : Step) (joins others pairs other_pairs outer all faces : List (ℕ × ℕ)) (lowers : List ℕ)
    (label other_label : ℕ → ℕ) → IsLaid step joins others pairs other_pairs outer all → LiesNear step faces lowers
    → IsPlaced (added step joins others faces lowers label other_label)
IsPlaced-added step joins others pairs other_pairs outer all faces lowers label other_label laid lies = record {
  joins = AllByRecursion-append (λ pair. (pair.0 < step.count + 1) × (pair.1 < step.count + 1)) joins others
      (AreAmong-below step.count (is_near step) joins laid.first.inside)
      (AreAmong-below step.count (is_near step) others laid.second.inside);
  places = those-below step.count (is_near step);
  faces = AllByRecursion-append (λ face. Contains (near step) face.0) faces
      (marked_by label (closed_circles step joins) ++ marked_by other_label (closed_circles step others)) lies.faces_near
      (AllByRecursion-append (λ face. Contains (near step) face.0) (marked_by label (closed_circles step joins))
      (marked_by other_label (closed_circles step others))
      (marked-among (closed_circles step joins) (near step) label (closed-near step joins))
      (marked-among (closed_circles step others) (near step) other_label (closed-near step others)));
  lowers = lies.lowers_near;
  raises = All-contained (λ x. Contains (near step) x) (after step).opened (λ x has. open-near step x laid.first.step_is has);
}

-- the two meet along the discs of the new pairings
disc-respects : (step : Step) (joins others pairs other_pairs outer all : List (ℕ × ℕ)) (f : ℕ → ℕ)
    → IsLaid step joins others pairs other_pairs outer all → Respects f joins → Respects f others
    → Respects f (pairs ++ other_pairs)
disc-respects step joins others pairs other_pairs outer all f laid first second =
    Respects-append f pairs other_pairs (laid.first.made.only f first) (laid.second.made.only f second)

discs-among : (step : Step) (joins others pairs other_pairs outer all : List (ℕ × ℕ))
    → IsLaid step joins others pairs other_pairs outer all → AreAmong (after step).opened (pairs ++ other_pairs)
discs-among step joins others pairs other_pairs outer all laid =
    AreAmong-append (after step).opened pairs other_pairs laid.first.made.among laid.second.made.among

pub MeetAlong-discs : (step : Step) (joins others pairs other_pairs outer all faces : List (ℕ × ℕ)) (lowers : List ℕ)
    (label other_label : ℕ → ℕ) → IsLaid step joins others pairs other_pairs outer all → LiesNear step faces lowers
    → MeetAlong (outside step pairs other_pairs outer label other_label)
    (added step joins others faces lowers label other_label) (discs (after step) pairs other_pairs)
MeetAlong-discs step joins others pairs other_pairs outer all faces lowers label other_label laid lies =
    let n = step.count + 1 in
    let first = outside step pairs other_pairs outer label other_label in
    let second = added step joins others faces lowers label other_label in
    let step_is = laid.first.step_is in
    let first_respects : Respects (component_of first) (pairs ++ (other_pairs ++ outer)) =
    classes-together n first.joins
    (IsPlaced-outside step joins others pairs other_pairs outer all label other_label laid).joins in
    let second_respects : Respects (component_of second) (joins ++ others) =
    classes-together n second.joins
    (IsPlaced-added step joins others pairs other_pairs outer all faces lowers label other_label laid lies).joins in
    let among = discs-among step joins others pairs other_pairs outer all laid in
    let below = AreAmong-below step.count step.opened_next (pairs ++ other_pairs) among in
    record {
      size = refl;
      joins = AreAmong-append (after step).alive pairs (other_pairs ++ outer)
          (AreAmong-wider (after step).opened (after step).alive pairs (λ x has. open-alive step x step_is has)
          laid.first.made.among)
          (outside-among step others other_pairs outer laid.second);
      other_joins = AreAmong-append (near step) joins others laid.first.inside laid.second.inside;
      on = All-contained (λ x. Contains (after step).alive x × Contains (near step) x) (discs (after step) pairs other_pairs)
          (λ x has.
          let is_open = (filter-kept (is_least (classes_of n (pairs ++ other_pairs))) (after step).opened x has).has in
          (open-alive step x step_is is_open, open-near step x step_is is_open));
      meet = λ x alive near_too.
          let is = those-are step.count step.alive_next x alive in
          let is_near_too = those-are step.count (is_near step) x near_too in
          let is_open : IsOneOf step.count step.opened_next x = record {
            above = is.above;
            below = is.below;
            passes = both-open step x step_is is.above is.below is.passes is_near_too.passes;
          } in
          let circle = class_in n (pairs ++ other_pairs) x in
          let circle_is = class-is step.count step.opened_next (pairs ++ other_pairs) x among is_open in
          let x_below : x < n = omega (arith, is.below) in
          let circle_below : circle < n = omega (arith, circle_is.below) in
          let own = class-own n (pairs ++ other_pairs) x below x_below in (
            circle,
            Contains-filter (is_least (classes_of n (pairs ++ other_pairs))) (after step).opened circle
                (eq-eqb (class_in n (pairs ++ other_pairs) circle) circle own)
                (are-those step.count step.opened_next circle circle_is.above circle_is.below circle_is.passes),
            classes-finest (component_of first) n (pairs ++ other_pairs)
                (Respects-append (component_of first) pairs other_pairs
                (Respects-first (component_of first) pairs (other_pairs ++ outer) first_respects)
                (Respects-first (component_of first) other_pairs outer
                (Respects-second (component_of first) pairs (other_pairs ++ outer) first_respects)))
                below x circle x_below circle_below (sym own),
            classes-finest (component_of second) n (pairs ++ other_pairs)
                (disc-respects step joins others pairs other_pairs outer all (component_of second) laid
                (Respects-first (component_of second) joins others second_respects)
                (Respects-second (component_of second) joins others second_respects))
                below x circle x_below circle_below (sym own),
          );
    }
