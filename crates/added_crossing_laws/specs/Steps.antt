-- One crossing more: which arcs are open before and after it, the pairings after it, and the surface that it adds.
use Rattle.std.specs.Prelude.{◌≡◌, ℕ, ◌+◌, List, ◌++◌, map, nat_eq, nat_lt, slice_index, Bool, not, ◌&&◌, ◌||◌}
use Rattle.std.specs.List.{filter, flat_map, list_any, range_with_len, Contains}
use Rattle.kh_types.specs.Classes.{classes_of, Respects}
use Rattle.surface_laws.specs.Surfaces.{Surface}
use Rattle.surface_laws.specs.Points.{Points, AreAmong, least_points}
use Rattle.added_crossing_laws.specs.Pairings.{marked_by, circle_faces}
use Rattle.surface_laws.specs.Sheets.{sheet}

-- one crossing more: arcs and loops are the numbers 1 to a count; tests say which of them are open and which are alive, before the
-- crossing and after it, and which arcs are at the crossing
pub record Step : Type 0 where
  pub count : ℕ
  pub opened : ℕ → Bool
  pub alive : ℕ → Bool
  pub at_crossing : ℕ → Bool
  pub opened_next : ℕ → Bool
  pub alive_next : ℕ → Bool

-- the arcs and loops that pass a test
abbrev pub those : ℕ → (ℕ → Bool) → List ℕ
those count test = filter test (range_with_len 1 count)

-- the points before the crossing: what is open, and what is alive
abbrev pub before : Step → Points
before step = record { size = step.count + 1; opened = those step.count step.opened; alive = those step.count step.alive }

-- the points after it
abbrev pub after : Step → Points
after step = record { size = step.count + 1; opened = those step.count step.opened_next; alive = those step.count step.alive_next }

-- an arc is near the crossing where it is at it, or was open
abbrev pub is_near : Step → ℕ → Bool
is_near step x = step.opened x || step.at_crossing x

abbrev pub near : Step → List ℕ
near step = those step.count (is_near step)

-- a point is the mate of a lesser one where both are in one class
abbrev pub is_mate : List ℕ → ℕ → ℕ → Bool
is_mate classes x y = nat_lt x y && nat_eq (slice_index classes x) (slice_index classes y)

abbrev pub pair_with : ℕ → ℕ → ℕ × ℕ
pair_with x y = (x, y)

-- a point with each of its mates
abbrev pub pairs_at : List ℕ → List ℕ → ℕ → List (ℕ × ℕ)
pairs_at points classes x = map (pair_with x) (filter (is_mate classes x) points)

-- all such pairs of some points
abbrev pub pairs_among : List ℕ → List ℕ → List (ℕ × ℕ)
pairs_among points classes = flat_map (pairs_at points classes) points

-- the new pairing, where the old one and the smoothing of the crossing make some joins: the pairs of arcs that are open after the crossing
-- and in one class (Bar-Natan 2007; this project's form)
abbrev pub new_pairing : Step → List (ℕ × ℕ) → List (ℕ × ℕ)
new_pairing step joins = pairs_among (after step).opened (classes_of (step.count + 1) joins)

-- whether none of some points is in a class
abbrev pub is_none_in : List ℕ → List ℕ → ℕ → Bool
is_none_in points classes class = not (list_any (λ x. nat_eq (slice_index classes x) class) points)

-- the circles that the crossing closes: classes near it without an arc that is open after it, by their least arcs (Bar-Natan 2007)
abbrev pub closed_circles : Step → List (ℕ × ℕ) → List ℕ
closed_circles step joins =
    filter (is_none_in (after step).opened (classes_of (step.count + 1) joins))
    (least_points (step.count + 1) (near step) joins)

-- pairs join the open points of each class, and nothing else: what has one value at the two points of each pair has one value at the
-- open points of each class, and the other way round
pub record IsNewPairing (step : Step) (joins pairs : List (ℕ × ℕ)) : Type 0 where
  pub among : AreAmong (after step).opened pairs
  pub only : (f : ℕ → ℕ) → Respects f joins → Respects f pairs
  pub together : (f : ℕ → ℕ) → Respects f pairs → (x y : ℕ) → Contains (after step).opened x → Contains (after step).opened y
      → slice_index (classes_of (step.count + 1) joins) x ≡ slice_index (classes_of (step.count + 1) joins) y → f x ≡ f y

-- the surface that the crossing adds, where the old pairing and the smoothing make some joins on the one side and others on the other: it
-- has some faces and strips, and a face for each closed circle. A half strip at each arc that is open after raises the Euler count: the
-- surface outside has it
abbrev pub added : Step → List (ℕ × ℕ) → List (ℕ × ℕ) → List (ℕ × ℕ) → List ℕ → (ℕ → ℕ) → (ℕ → ℕ) → Surface
added step joins others faces lowers label other_label = record {
  size = step.count + 1;
  places = near step;
  joins = joins ++ others;
  faces = faces ++ (marked_by label (closed_circles step joins) ++ marked_by other_label (closed_circles step others));
  lowers = lowers;
  raises = (after step).opened;
}

-- the surface outside, between the new pairings, without their discs
abbrev pub outside : Step → List (ℕ × ℕ) → List (ℕ × ℕ) → List (ℕ × ℕ) → (ℕ → ℕ) → (ℕ → ℕ) → Surface
outside step m n w label other_label = sheet (after step) m n w (circle_faces (after step) m n w label other_label)
