-- The sides of a surface that a crossing adds: a pairing, a smoothing of the crossing, and what this makes of the pairing.
use Rattle.std.specs.Prelude.{◌≡◌, ℕ, ◌+◌, ◌<◌, ◌≤◌, List, length}
use Rattle.std.specs.List.{AllByRecursion, Contains}
use Rattle.kh_types.specs.Code.{Code, arc_in}
use Rattle.surface_laws.specs.Points.{AreAmong}
use Rattle.added_crossing_laws.specs.Codes.{closed_at, pairing_behind, points_at}
use Rattle.tangle_maps.specs.declared.pairing.TheConstants.{POINTS}
use Rattle.tangle_maps.specs.Pairings.{joins_of}
use Rattle.crossing_maps.specs.declared.between.Side.{Side}
use Rattle.crossing_maps.specs.declared.splitting.Site.{Site}
use Rattle.crossing_maps.specs.ListedPlaces.{IsArcs}
use Rattle.crossing_maps.specs.Sites.{IsSite}

-- a pairing of the arcs that are open before the crossing, its pairing after, and the circles that are closed
pub record IsSplit (code : Code) (k smoothing : ℕ) (m behind : List (ℕ × ℕ)) (closed : List ℕ) : Type 0 where
  pub among : AreAmong (points_at code k).opened m
  pub pairs : behind ≡ pairing_behind code k smoothing m
  pub circles : closed ≡ closed_at code k smoothing m

-- the pairs of a side before the crossing and after it, and the circles that are closed there
abbrev pub pairs_before : Site → Side → List (ℕ × ℕ)
pairs_before site side = joins_of side.pairing.now.partners site.opened.now

abbrev pub pairs_after : Site → Side → List (ℕ × ℕ)
pairs_after site side = joins_of side.split.now.pairing.partners site.next.now

abbrev pub closed_on : Side → List ℕ
closed_on side = side.split.now.closed.items

-- a site is the crossing that comes after the first k of a code, and a side is what a smoothing makes there
abbrev pub IsSiteAt : Code → ℕ → Site → Type 0
IsSiteAt code k site = IsSite code k site.opened.now site.near.now site.next.now site.crossing.now

abbrev pub IsSideAt : Code → ℕ → Site → Side → Type 0
IsSideAt code k site side = IsSplit code k side.smoothing (pairs_before site side) (pairs_after site side) (closed_on side)

-- the arcs of a site are few enough to be numbered, and those that are open before or after, or at the crossing, are near it
pub record IsAround (site : Site) : Type 0 where
  pub opened : IsArcs POINTS site.opened.now
  pub around : IsArcs POINTS site.near.now
  pub next : IsArcs POINTS site.next.now
  pub before : AllByRecursion (λ x. Contains site.near.now x) site.opened.now
  pub behind : AllByRecursion (λ x. Contains site.near.now x) site.next.now
  pub slots : (slot : ℕ) → slot < 4 → Contains site.near.now (arc_in site.crossing.now slot)

-- a crossing can be added between two sides: their pairs are of open arcs, and they close circles with names of arcs, and not too many
pub record CanAdd (site : Site) (from to : Side) : Type 0 where
  pub around : IsAround site
  pub first : AreAmong site.opened.now (pairs_before site from)
  pub second : AreAmong site.opened.now (pairs_before site to)
  pub closed : IsArcs POINTS (closed_on from)
  pub others : IsArcs POINTS (closed_on to)
  pub both : length (closed_on from) + length (closed_on to) ≤ POINTS
