-- The steps of a code, whose crossings are added in the order of the list: the arcs that are open after the first k of them, the pairings
-- and circles there, and the surfaces with one crossing more.
use Rattle.std.specs.Prelude.{map, ℕ, ◌+◌, ◌*◌, ◌<◌, List, length, [], ◌∷◌, ◌++◌, nat_eq, nat_lt, Bool, slice_index, slice_index_or}
use Rattle.std.specs.List.{count_by, filter, range_with_len}
use Rattle.kh_types.specs.Code.{Code, arc_in, arc_count, arcs_and_loops}
use Rattle.kh_types.specs.Circles.{smoothing_of}
use Rattle.kh_types.specs.CircleSteps.{arc_at}
use Rattle.kh_types.specs.Classes.{classes_of, Respects}
use Rattle.kh_types.specs.Darts.{HasArcsTwice}
use Rattle.surface_laws.specs.Surfaces.{Surface, IsClosed}
use Rattle.surface_laws.specs.Cuts.{with_faces, first_caps, second_caps, sum_of_products}
use Rattle.surface_laws.specs.Overlays.{at_places}
use Rattle.surface_laws.specs.Points.{Points, AreAmong, discs, circles}
use Rattle.genus_laws.specs.CutCodes.{outer_smoothings}
use Rattle.added_crossing_laws.specs.Pairings.{marked_by, circle_faces}
use Rattle.surface_laws.specs.Sheets.{sheet}
use Rattle.added_crossing_laws.specs.Steps.{Step, new_pairing, closed_circles, added, outside}

-- how many ends of an arc are among some darts, each given by its place
abbrev pub ends_among : List (List ℕ) → ℕ → List ℕ → ℕ
ends_among crossings x places = count_by (λ place. nat_eq (arc_at crossings place) x) places

-- how many are at the first k crossings
abbrev pub ends_before : List (List ℕ) → ℕ → ℕ → ℕ
ends_before crossings k x = ends_among crossings x (range_with_len 0 (4 * k))

-- and how many at the next crossing
abbrev pub ends_at : List (List ℕ) → ℕ → ℕ → ℕ
ends_at crossings k x = ends_among crossings x (range_with_len (4 * k) 4)

-- after the first k crossings an arc is open where one of its ends is at them
abbrev pub is_open : Code → ℕ → ℕ → Bool
is_open code k x = nat_eq (ends_before code.crossings k x) 1

-- and it is alive where at most one is: a loop, which has no end, stays alive
abbrev pub is_alive : Code → ℕ → ℕ → Bool
is_alive code k x = nat_lt (ends_before code.crossings k x) 2

-- the points there: arcs and loops, by their numbers
abbrev pub points_at : Code → ℕ → Points
points_at code k = record {
  size = arc_count code.crossings + code.loops + 1;
  opened = filter (is_open code k) (arcs_and_loops code);
  alive = filter (is_alive code k) (arcs_and_loops code);
}

-- the step from the first k crossings to one more
abbrev pub step_at : Code → ℕ → Step
step_at code k = record {
  count = arc_count code.crossings + code.loops;
  opened = is_open code k;
  alive = is_alive code k;
  at_crossing = λ x. nat_lt 0 (ends_at code.crossings k x);
  opened_next = is_open code (k + 1);
  alive_next = is_alive code (k + 1);
}

-- what a smoothing of the next crossing, after the first k, joins
abbrev pub smoothing_at : Code → ℕ → ℕ → List (ℕ × ℕ)
smoothing_at code k smoothing = smoothing_of smoothing (slice_index_or code.crossings k [])

-- the pairing of the open arcs after one crossing more, where the crossing has a smoothing
abbrev pub pairing_behind : Code → ℕ → ℕ → List (ℕ × ℕ) → List (ℕ × ℕ)
pairing_behind code k smoothing m = new_pairing (step_at code k) (m ++ smoothing_at code k smoothing)

-- the circles of a pairing, a smoothing of the crossing and what a state joins after it, by their least arcs
abbrev pub circles_before : Code → ℕ → ℕ → ℕ → List (ℕ × ℕ) → List ℕ
circles_before code k smoothing state m =
    circles (points_at code k) (m ++ smoothing_at code k smoothing) (outer_smoothings code.crossings state (k + 1))

-- and the circle of an arc among them
abbrev pub circle_before : Code → ℕ → ℕ → ℕ → List (ℕ × ℕ) → ℕ → ℕ
circle_before code k smoothing state m x =
    slice_index
    (classes_of (points_at code k).size ((m ++ smoothing_at code k smoothing) ++ outer_smoothings code.crossings state (k + 1))) x

-- the circles of the new pairing and what the state joins after the crossing
abbrev pub circles_behind : Code → ℕ → ℕ → ℕ → List (ℕ × ℕ) → List ℕ
circles_behind code k smoothing state m =
    circles (points_at code (k + 1)) (pairing_behind code k smoothing m) (outer_smoothings code.crossings state (k + 1))

-- and the circle of an arc among these
abbrev pub circle_behind : Code → ℕ → ℕ → ℕ → List (ℕ × ℕ) → ℕ → ℕ
circle_behind code k smoothing state m x =
    slice_index
    (classes_of (points_at code (k + 1)).size (pairing_behind code k smoothing m ++ outer_smoothings code.crossings state (k + 1))) x

-- the circles of a pairing and a smoothing of the crossing that the crossing closes
abbrev pub closed_at : Code → ℕ → ℕ → List (ℕ × ℕ) → List ℕ
closed_at code k smoothing m = closed_circles (step_at code k) (m ++ smoothing_at code k smoothing)

-- the surface between two pairings at a state: with a face on each of their discs, marked by dots, and on each circle of either pairing,
-- marked by labels
abbrev pub sheet_at : Code → ℕ → ℕ → List (ℕ × ℕ) → List (ℕ × ℕ) → (ℕ → ℕ) → (ℕ → ℕ) → (ℕ → ℕ) → Surface
sheet_at code k state m n dots label other_label =
    let points = points_at code k in
    let w = outer_smoothings code.crossings state k in
    sheet points m n w (marked_by dots (discs points m n) ++ circle_faces points m n w label other_label)

-- the surface outside one crossing more, between the new pairings, without their discs
abbrev pub outside_at : Code → ℕ → ℕ → List (ℕ × ℕ) → List (ℕ × ℕ) → (ℕ → ℕ) → (ℕ → ℕ) → Surface
outside_at code k state m n label other_label =
    outside (step_at code k) m n (outer_smoothings code.crossings state (k + 1)) label other_label

-- the surface that the crossing adds between two pairings, where it has one smoothing, without the discs of the new pairings
abbrev pub added_at : Code → ℕ → ℕ → List (ℕ × ℕ) → List (ℕ × ℕ) → (ℕ → ℕ) → (ℕ → ℕ) → (ℕ → ℕ) → Surface
added_at code k smoothing m n dots label other_label =
    let s = smoothing_at code k smoothing in
    added (step_at code k) (m ++ s) (n ++ s) (marked_by dots (discs (points_at code k) m n)) (points_at code k).opened label other_label

-- an arc at the crossing
abbrev pub arc_there : Code → ℕ → ℕ
arc_there code k = arc_in (slice_index_or code.crossings k []) 0

-- a disc for a pair, at its first end, without marks
abbrev pub disc_of : ℕ × ℕ → ℕ × ℕ
disc_of pair = (pair.0, 0)

-- the half strips of a saddle: those at the open arcs, and two at the crossing
abbrev pub saddle_strips : Code → ℕ → List ℕ
saddle_strips code k = arc_there code k ∷ arc_there code k ∷ (points_at code k).opened

-- the saddle that leads from the 0-smoothing of the crossing to its 1-smoothing, for one pairing at a state of the crossings after it
abbrev pub saddle_sheet : Code → ℕ → ℕ → List (ℕ × ℕ) → (ℕ → ℕ) → (ℕ → ℕ) → Surface
saddle_sheet code k state m label other_label =
    let points = points_at code k in
    let w = outer_smoothings code.crossings state (k + 1) in
    let s = smoothing_at code k 0 in
    let t = smoothing_at code k 1 in
    record {
      size = points.size;
      places = points.alive;
      joins = m ++ (s ++ (t ++ w));
      faces = map disc_of m ++ circle_faces points (m ++ s) (m ++ t) w label other_label;
      lowers = saddle_strips code k;
      raises = [];
    }

-- the part of it that the crossing adds, without the discs of the new pairings
abbrev pub saddle_added : Code → ℕ → List (ℕ × ℕ) → (ℕ → ℕ) → (ℕ → ℕ) → Surface
saddle_added code k m label other_label =
    let s = smoothing_at code k 0 in
    let t = smoothing_at code k 1 in
    added (step_at code k) (m ++ s) (m ++ t) (map disc_of m) (saddle_strips code k) label other_label

-- two pairings of the open arcs of a code, and labels of the circles that they make: each has one value on each circle
pub record AreLabelled (code : Code) (k state : ℕ) (m n : List (ℕ × ℕ)) (label other_label : ℕ → ℕ) : Type 0 where
  pub twice : HasArcsTwice code.crossings
  pub crossing : k < length code.crossings
  pub first : AreAmong (points_at code k).opened m
  pub second : AreAmong (points_at code k).opened n
  pub first_label : Respects label (m ++ outer_smoothings code.crossings state k)
  pub second_label : Respects other_label (n ++ outer_smoothings code.crossings state k)

-- one pairing before a saddle, and labels of the circles before and after it
pub record IsLabelled (code : Code) (k state : ℕ) (m : List (ℕ × ℕ)) (label other_label : ℕ → ℕ) : Type 0 where
  pub twice : HasArcsTwice code.crossings
  pub crossing : k < length code.crossings
  pub pairing : AreAmong (points_at code k).opened m
  pub first_label : Respects label ((m ++ smoothing_at code k 0) ++ outer_smoothings code.crossings state (k + 1))
  pub second_label : Respects other_label ((m ++ smoothing_at code k 1) ++ outer_smoothings code.crossings state (k + 1))

-- the discs of the new pairings, where the crossing has a smoothing on either side
abbrev pub discs_behind : Code → ℕ → ℕ → ℕ → List (ℕ × ℕ) → List (ℕ × ℕ) → List ℕ
discs_behind code k smoothing other m n =
    discs (points_at code (k + 1)) (pairing_behind code k smoothing m) (pairing_behind code k other n)

-- two surfaces are closed once there are discs at some circles
pub record AreClosed (first second : Surface) (circles : List ℕ) : Type 0 where
  pub first_closed : IsClosed (with_faces first (first_caps (at_places circles) 0))
  pub second_closed : IsClosed (with_faces second (second_caps (at_places circles) 0))

-- the sum over all sets of dots on the discs at some circles, of the products of two numbers: a disc on the first surface has a dot where
-- it is in the set, that on the second one a hollow dot where it is not (neck-cutting, after Bar-Natan 2005)
abbrev pub sum_over_dots : ℕ → ℕ → Surface → Surface → List ℕ → ℕ
sum_over_dots h minus first second circles = sum_of_products h minus first second (at_places circles)
