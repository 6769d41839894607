-- Places of a surface as a program keeps them.
use Rattle.std.specs.Prelude.{ℕ, ◌+◌, ◌*◌, ◌≤◌, List, length}
use Rattle.tangle_maps.specs.declared.pairing.TheConstants.{POINTS}
use Rattle.tangle_maps.specs.Pairings.{IsOpened}
use Rattle.crossing_maps.specs.declared.genus.Lists.{Lists}
use Rattle.crossing_maps.specs.Counts.{Places}

abbrev pub places_in : Lists → Places
places_in lists = record {
  rims = lists.rims.now;
  discs = lists.discs.now;
  closed = lists.closed.now;
  others = lists.others.now;
  lowers = lists.lowers.now;
  raises = lists.raises.now;
}

-- they are few enough to be counted by machine numbers
pub record HaveRoom (at : Places) : Type 0 where
  pub rims : length at.rims ≤ POINTS
  pub discs : length at.discs ≤ POINTS
  pub closed : length at.closed ≤ POINTS
  pub others : length at.others ≤ POINTS
  pub lowers : length at.lowers ≤ 2 * POINTS
  pub raises : length at.raises ≤ POINTS

-- arcs that a program can number, and which fit in a room
pub record IsArcs (room : ℕ) (arcs : List ℕ) : Type 0 where
  pub below : IsOpened arcs
  pub fits : length arcs ≤ room

pub record AreArcs (at : Places) : Type 0 where
  pub rims : IsArcs POINTS at.rims
  pub discs : IsArcs POINTS at.discs
  pub closed : IsArcs POINTS at.closed
  pub others : IsArcs POINTS at.others
  pub lowers : IsArcs (2 * POINTS) at.lowers
  pub raises : IsArcs POINTS at.raises
  pub both : length at.closed + length at.others ≤ POINTS
