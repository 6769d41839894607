-- What a move leaves, before its arcs are numbered anew.
use Rattle.std.specs.Prelude.{◌≡◌, ℕ, IsTrue, length}
use Rattle.kink_and_finger_laws.specs.Planar.{IsPlanarBy}
use Rattle.kh_types.specs.Acceptance.{accepted}
use Rattle.code_passes.specs.Parts.{ArePaired, Parts}
use Rattle.orient_arcs.specs.Alike.{HasNamesBelow}
use Rattle.orient_arcs.specs.Renumbered.{renumber}

-- crossings over names, each with a sign, whose arcs have a head and a tail each, and which are on the sphere
pub record IsJoinable (bound : ℕ) (parts : Parts) : Type 0 where
  pub paired : ArePaired parts
  pub size : length parts.positive ≡ length parts.crossings
  pub partner : ℕ → ℕ
  pub planar : IsPlanarBy parts.crossings partner
  pub names : HasNamesBelow bound parts.crossings

-- crossings over names whose arcs have a head and a tail each, and whose code is accepted
pub record AreReady (parts : Parts) : Type 0 where
  pub paired : ArePaired parts
  pub accepted_code : IsTrue (accepted (renumber parts))
