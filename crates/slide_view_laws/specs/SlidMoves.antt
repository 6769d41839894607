-- What a slide is as a move: the slid code under other numbers.
use Rattle.std.specs.Prelude.{◌≡◌, ℕ, ◌+◌, ◌/◌, ◌%◌, nat_lt, ◌&&◌, if◌then◌else◌, IsTrue}
use Rattle.kh_types.specs.Acceptance.{accepted}
use Rattle.kh_types.specs.Code.{Code, arc_count}
use Rattle.kh_types.specs.Darts.{HasArcsTwice, arc_of, first_dart}
use Rattle.kh_types.specs.Directions.{plus_count, minus_count}
use Rattle.gluing_laws.specs.Alike.{AreAlike}
use Rattle.gluing_laws.specs.SlidCodes.{IsSlid}
use Rattle.slide_laws.specs.Slid.{slid, slid_code}
use Rattle.slide_laws.specs.Triangles.{IsTriangle}
use Rattle.slide_view_laws.specs.RenamedViews.{IsRenumberedOnto}

-- the number that an arc of a code has in a code with alike crossings: that at its first dart; loops keep their numbers
abbrev pub new_number : Code → Code → ℕ → ℕ
new_number old new x =
    if nat_lt 0 x && nat_lt x (arc_count old.crossings + 1) then arc_of new.crossings (first_dart old.crossings x) else x

-- a code is what a slide leaves of another, at the triangle of the darts x, y and z: it is accepted, with the old loops and signs; its
-- crossings are alike those of the slid code, whose numbers go over to its own; and the slid code has the other triangle at the three
-- crossings
pub record IsSlidFrom (code new : Code) : Type 0 where
  pub x : ℕ
  pub y : ℕ
  pub z : ℕ
  pub arcs : ℕ → ℕ
  pub triangle : IsTriangle code.crossings x y z
  pub slid_too : IsSlid code (slid_code code x y z) (x / 4) (y / 4) (z / 4) (x % 4) (y % 4) (z % 4) arcs
  pub old_twice : HasArcsTwice code.crossings
  pub slid_twice : HasArcsTwice (slid code.crossings x y z)
  pub alike : AreAlike (slid code.crossings x y z) new.crossings
  pub renumbered : IsRenumberedOnto (new_number (slid_code code x y z) new) (slid_code code x y z) new
  pub loops : new.loops ≡ code.loops
  pub accepted_too : IsTrue (accepted new)
  pub plus : plus_count new.crossings ≡ plus_count code.crossings
  pub minus : minus_count new.crossings ≡ minus_count code.crossings
