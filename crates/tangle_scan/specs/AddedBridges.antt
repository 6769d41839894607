-- The surfaces that a crossing adds between objects, from which new maps are made.
use Rattle.std.specs.Prelude.{◌≡◌, ℕ, ◌<◌, List, All, length, slice_index_or}
use Rattle.tangle_maps.specs.Pairings.{joins_of}
use Rattle.crossing_maps.specs.AddedSeams.{ArePairs}
use Rattle.crossing_maps.specs.Bridges.{CanLabel, IsAddedBridge, IsSaddleBridge}
use Rattle.crossing_maps.specs.declared.bridges.Bridge.{Bridge}
use Rattle.scan_laws.specs.Scans.{pairs_of}
use Rattle.tangle_scan.specs.declared.adding.Adding.{Adding}
use Rattle.tangle_scan.specs.declared.adding.bridges.BridgeTo.{BridgeTo}
use Rattle.tangle_scan.specs.declared.adding.bridges.BridgesOf.{BridgesOf}
use Rattle.tangle_scan.specs.Additions.{code_in, done_in, scan_in}

-- a bridge is that of the surface which the crossing adds, with a smoothing, between two pairings
pub record IsBridgeIn (adding : Adding) (smoothing : ℕ) (m n : List (ℕ × ℕ)) (bridge : Bridge) : Type 0 where
  pub labels : CanLabel bridge
  pub pairs : ArePairs (code_in adding) (done_in adding) m n
  pub added : IsAddedBridge (code_in adding) (done_in adding) smoothing smoothing m n bridge

-- it is that between the objects at two places
abbrev pub IsBridgeOver : Adding → ℕ → ℕ → ℕ → Bridge → Type 0
IsBridgeOver adding smoothing tail head bridge =
    IsBridgeIn adding smoothing (pairs_of (scan_in adding) tail) (pairs_of (scan_in adding) head) bridge

-- a bridge leads from a pairing, with a smoothing, to its own pairing
abbrev pub IsBridgeFrom : Adding → ℕ → List (ℕ × ℕ) → BridgeTo → Type 0
IsBridgeFrom adding smoothing m to =
    IsBridgeIn adding smoothing m (joins_of to.pairing.partners adding.site.opened.now) to.bridge

-- bridges lead from a pairing, with a smoothing, each to its own
abbrev pub LeadFrom : Adding → ℕ → List (ℕ × ℕ) → List BridgeTo → Type 0
LeadFrom adding smoothing m bridges = All (IsBridgeFrom adding smoothing m) bridges

-- bridges lead from the pairing of the object at a place, with a smoothing
abbrev pub AreBridgesFrom : Adding → ℕ → ℕ → List BridgeTo → Type 0
AreBridgesFrom adding smoothing tail bridges = LeadFrom adding smoothing (pairs_of (scan_in adding) tail) bridges

-- the bridge at a place of some leads from one object to another
pub record HasBridgeAt (adding : Adding) (smoothing tail head : ℕ) (bridges : List BridgeTo) (place : ℕ) : Type 0 where
  pub within : place < length bridges
  pub over : (d : BridgeTo) → IsBridgeOver adding smoothing tail head (slice_index_or bridges place d).bridge

-- a bridge is that of the saddle of a pairing
pub record IsSaddleIn (adding : Adding) (m : List (ℕ × ℕ)) (bridge : Bridge) : Type 0 where
  pub labels : CanLabel bridge
  pub pairs : ArePairs (code_in adding) (done_in adding) m m
  pub saddle : IsSaddleBridge (code_in adding) (done_in adding) m bridge

-- a bridge is that of the saddle of the object at a place
abbrev pub IsSaddleOf : Adding → ℕ → Bridge → Type 0
IsSaddleOf adding place bridge = IsSaddleIn adding (pairs_of (scan_in adding) place) bridge

-- the pairs of a pairing whose bridges are kept
abbrev pub pairs_in : Adding → BridgesOf → List (ℕ × ℕ)
pairs_in adding bridges = joins_of bridges.pairing.partners adding.site.opened.now

-- each bridge that is kept of a pairing leads from it, with its smoothing; and that of its saddle is there
pub record AreBridgesOf (adding : Adding) (bridges : BridgesOf) : Type 0 where
  pub zero : LeadFrom adding 0 (pairs_in adding bridges) bridges.zero.items
  pub one : LeadFrom adding 1 (pairs_in adding bridges) bridges.one.items
  pub saddle : IsSaddleIn adding (pairs_in adding bridges) bridges.saddle

-- all that are kept are the bridges of their pairings
abbrev pub AreAllBridges : Adding → List BridgesOf → Type 0
AreAllBridges adding all = All (AreBridgesOf adding) all

-- those that are kept at a place are of the pairing of an object
pub record HasBridgesAt (adding : Adding) (tail : ℕ) (all : List BridgesOf) (place : ℕ) : Type 0 where
  pub within : place < length all
  pub pairs : (d : BridgesOf) → pairs_in adding (slice_index_or all place d) ≡ pairs_of (scan_in adding) tail
