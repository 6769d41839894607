-- Seams of three pairings, as a program keeps them.
use Rattle.std.specs.Prelude.{◌≡◌, ℕ, ◌<◌, List, All, length, slice_index_or}
use Rattle.std.specs.Global.{Vec}
use Rattle.tangle_maps.specs.Pairings.{joins_of, opened_points, paired_arcs}
use Rattle.tangle_maps.specs.Seams.{IsSeam}
use Rattle.tangle_maps.specs.declared.kept.KeptSeam.{KeptSeam}
use Rattle.tangle_maps.specs.declared.kept.TheConstants.{LISTS}
use Rattle.tangle_maps.specs.declared.seam.Seam.{Seam}
use Rattle.tangle_maps.specs.declared.way.Way.{Way}

-- a seam is that of three pairings with these partners, of the arcs that the first pairs
pub record IsSeamOf (from over to : List ℕ) (seam : Seam) : Type 0 where
  pub is : IsSeam (opened_points (paired_arcs from)) (joins_of from (paired_arcs from)) (joins_of over (paired_arcs from))
      (joins_of to (paired_arcs from)) seam

-- it is that of the pairings of a way
abbrev pub IsSeamAlong : Way → Seam → Type 0
IsSeamAlong way seam = IsSeamOf way.from.now.partners way.over.now.partners way.to.now.partners seam

-- what is kept as the seam of three pairings is it
abbrev pub IsKeptSeam : KeptSeam → Type 0
IsKeptSeam kept = IsSeamOf kept.from.partners kept.over.partners kept.to.partners kept.seam

-- all seams of a list lead along the pairings that they are kept with
abbrev pub AreKeptSeams : List KeptSeam → Type 0
AreKeptSeams list = All IsKeptSeam list

-- so many lists of seams, each kept as that of its pairings
pub record AreSeamLists (lists : List (Vec KeptSeam)) : Type 0 where
  pub many : length lists ≡ LISTS
  pub each : All (λ list. AreKeptSeams list.items) lists

-- the seam at a place of some is that of the pairings of a way
pub record HasSeamAt (way : Way) (list : List KeptSeam) (place : ℕ) : Type 0 where
  pub within : place < length list
  pub along : (d : KeptSeam) → IsSeamAlong way (slice_index_or list place d).seam
