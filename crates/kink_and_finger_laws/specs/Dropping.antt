-- Kinks and bigons at crossings that are dropped, and what is left.
use Rattle.std.specs.Prelude.{◌≡◌, ◌≢◌, ℕ, ◌+◌, ◌%◌, ◌<◌, List, length}
use Rattle.code_passes.specs.Parts.{ArePaired, Parts}
use Rattle.gluing_laws.specs.Arcs.{arc_by_place}
use Rattle.kink_and_finger_laws.specs.Planar.{HasColours, IsPlanarBy}
use Rattle.kh_types.specs.Darts.{partner_at}
use Rattle.kink_and_finger_laws.specs.Drops.{after}
use Rattle.kink_and_finger_laws.specs.Pulls.{dart_in}

-- the crossing at a place has a kink at a slot
pub record HasKinkAt (crossings : List (List ℕ)) (c p : ℕ) : Type 0 where
  pub below : c < length crossings
  pub slot : p < 4
  pub same : arc_by_place crossings c p ≡ arc_by_place crossings c (after p)

-- two crossings meet in a bigon from a slot of the first and a slot of the second, whose sides go over at both or under at both
pub record HasBigonAt (crossings : List (List ℕ)) (c d p q : ℕ) : Type 0 where
  pub first_below : c < length crossings
  pub second_below : d < length crossings
  pub apart : c ≢ d
  pub first_side : partner_at crossings (dart_in c p) ≡ dart_in d (q + 1)
  pub second_side : partner_at crossings (dart_in d q) ≡ dart_in c (p + 1)
  pub odd : (p + q) % 2 ≡ 1

-- what is left where crossings are dropped: each arc has a head and a tail, there are two colours, and as many faces as on the sphere
pub record IsPlanarRest (parts : Parts) : Type 0 where
  pub paired : ArePaired parts
  pub choice : ℕ → ℕ
  pub colours : HasColours parts.crossings choice
  pub partner : ℕ → ℕ
  pub planar : IsPlanarBy parts.crossings partner
