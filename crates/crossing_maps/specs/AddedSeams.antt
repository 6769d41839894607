-- The surface that a crossing adds, as a seam: its first discs are those before the crossing, which have the dots of a term, and its second
-- ones the circles that are closed on either side, whose labels are a dot set.
use Rattle.std.specs.Prelude.{◌≡◌, ℕ, ◌+◌, ◌-◌, ◌<◌, List, ◌++◌, length, slice_index}
use Rattle.std.specs.List.{Contains}
use Rattle.kh_types.specs.Bits.{bit}
use Rattle.kh_types.specs.Classes.{classes_of}
use Rattle.kh_types.specs.Code.{Code}
use Rattle.surface_laws.specs.Points.{AreAmong, least_points}
use Rattle.added_crossing_laws.specs.Codes.{closed_at, discs_behind, points_at, smoothing_at, step_at}
use Rattle.added_crossing_laws.specs.Steps.{near}
use Rattle.tangle_maps.specs.declared.pairing.TheConstants.{POINTS}
use Rattle.tangle_maps.specs.declared.seam.Seam.{Seam}
use Rattle.crossing_maps.specs.Counts.{Places, genus_at, on}
use Rattle.crossing_maps.specs.Sites.{IsPlace}

-- a dot set marks closed circles by their labels: the first ones, before the crossing, where the label is v-, and the others, after it, where
-- it is v+
pub record AreMarks (closed others label other marks : ℕ) : Type 0 where
  pub before : (place : ℕ) → place < closed → bit marks place ≡ bit label place
  pub behind : (place : ℕ) → place < others → bit marks (closed + place) ≡ 1 - bit other place

-- a seam has these components, and on them discs before and after the crossing, the circles that are closed on either side, one after the
-- other, and the genus of each
pub record IsAddedSeam (names : List ℕ) (at : Places) (seam : Seam) : Type 0 where
  pub parts : seam.components.items ≡ names
  pub first : seam.first.items ≡ at.discs
  pub second : seam.second.items ≡ at.closed ++ at.others
  pub whole : seam.whole.items ≡ at.rims
  pub genera : (k : ℕ) → Contains names k → slice_index seam.genera k ≡ genus_at at k

-- the places of what a crossing of a code adds between two pairings, with these discs before it and half strips
abbrev pub places_there : Code → ℕ → ℕ → ℕ → List (ℕ × ℕ) → List (ℕ × ℕ) → List ℕ → List ℕ → Places
places_there code k first second m n discs lowers = record {
  rims = discs_behind code k first second m n;
  discs = discs;
  closed = closed_at code k first m;
  others = closed_at code k second n;
  lowers = lowers;
  raises = (points_at code (k + 1)).opened;
}

abbrev pub joins_there : Code → ℕ → ℕ → ℕ → List (ℕ × ℕ) → List (ℕ × ℕ) → List (ℕ × ℕ)
joins_there code k first second m n = (m ++ smoothing_at code k first) ++ (n ++ smoothing_at code k second)

-- a seam is that of the surface with these discs and half strips, by classes of all arcs that a program can number, and a dot set marks the
-- closed circles by these labels
pub record IsSeamAt (code : Code) (k first second : ℕ) (m n : List (ℕ × ℕ)) (discs lowers : List ℕ) (label other : ℕ) (seam : Seam)
    (marks : ℕ) : Type 0 where
  pub added : IsAddedSeam (least_points POINTS (near (step_at code k)) (joins_there code k first second m n))
      (on (slice_index (classes_of POINTS (joins_there code k first second m n))) (places_there code k first second m n discs lowers)) seam
  pub labels : AreMarks (length (closed_at code k first m)) (length (closed_at code k second n)) label other marks

-- two pairings of the arcs that are open where a crossing is added
pub record ArePairs (code : Code) (k : ℕ) (m n : List (ℕ × ℕ)) : Type 0 where
  pub place : IsPlace code k
  pub first : AreAmong (points_at code k).opened m
  pub second : AreAmong (points_at code k).opened n
