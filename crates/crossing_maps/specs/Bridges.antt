-- The surface that a crossing adds between two pairings, before the circles that it closes have labels.
use Rattle.std.specs.Prelude.{◌≡◌, ℕ, ◌≤◌, List, length, map, slice_index}
use Rattle.kh_types.specs.Classes.{classes_of}
use Rattle.kh_types.specs.Code.{Code}
use Rattle.surface_laws.specs.Points.{discs, least_points}
use Rattle.added_crossing_laws.specs.Codes.{points_at, saddle_strips, step_at}
use Rattle.added_crossing_laws.specs.Steps.{near}
use Rattle.tangle_maps.specs.declared.pairing.TheConstants.{POINTS}
use Rattle.tangle_maps.specs.Seams.{CanCompose}
use Rattle.crossing_maps.specs.declared.bridges.Bridge.{Bridge}
use Rattle.crossing_maps.specs.AddedSeams.{IsAddedSeam, joins_there, places_there}
use Rattle.crossing_maps.specs.Counts.{Places, on}
use Rattle.crossing_maps.specs.NewTerms.{first_end}

-- a bridge has the seam of these components and places, and the number of circles that are closed before the crossing
pub record IsBridge (names : List ℕ) (at : Places) (bridge : Bridge) : Type 0 where
  pub seam : IsAddedSeam names at bridge.seam
  pub closed : bridge.closed ≡ length at.closed

-- a bridge over whose seam maps can be composed, with few closed circles, of which some are before the crossing
pub record CanLabel (bridge : Bridge) : Type 0 where
  pub composes : CanCompose bridge.seam
  pub closed : bridge.closed ≤ length bridge.seam.second.items
  pub circles : length bridge.seam.second.items ≤ POINTS

-- a bridge is that of the surface with these discs and half strips, by classes of all arcs that a program can number
abbrev pub IsBridgeAt : Code → ℕ → ℕ → ℕ → List (ℕ × ℕ) → List (ℕ × ℕ) → List ℕ → List ℕ → Bridge → Type 0
IsBridgeAt code k first second m n discs lowers bridge =
    IsBridge (least_points POINTS (near (step_at code k)) (joins_there code k first second m n))
    (on (slice_index (classes_of POINTS (joins_there code k first second m n))) (places_there code k first second m n discs lowers)) bridge

-- it is that of the surface which a crossing adds between two pairings, or of the saddle of a pairing
abbrev pub IsAddedBridge : Code → ℕ → ℕ → ℕ → List (ℕ × ℕ) → List (ℕ × ℕ) → Bridge → Type 0
IsAddedBridge code k first second m n bridge =
    IsBridgeAt code k first second m n (discs (points_at code k) m n) (points_at code k).opened bridge

abbrev pub IsSaddleBridge : Code → ℕ → List (ℕ × ℕ) → Bridge → Type 0
IsSaddleBridge code k m bridge = IsBridgeAt code k 0 1 m m (map first_end m) (saddle_strips code k) bridge
