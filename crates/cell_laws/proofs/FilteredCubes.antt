-- The deformed cube of an accepted code is filtered.
use Rattle.std.proofs.Common.{ℕ, ◌<◌, IsTrue}
use Rattle.kh_types.specs.Acceptance.{accepted}
use Rattle.kh_types.specs.Code.{Code}
use Rattle.cell_laws.specs.Filtered.{AreFiltered}
use Rattle.cell_laws.specs.DeformedCubes.{deformed_cube_of}
use Rattle.cell_laws.proofs.DeformedCells.{cube-homological, cube-quantum, cube-squares}
use Rattle.square_laws.proofs.RaisedDegrees.{deformed-below}

pub AreFiltered-cube : (p h : ℕ) (code : Code) (plus minus : ℕ) → 0 < p → IsTrue (accepted code)
    → AreFiltered p (deformed_cube_of p h code plus minus)
AreFiltered-cube p h code plus minus positive is =
    record {
      below = λ x y. deformed-below p h code x y positive;
      homological = λ x y has_x has_y. cube-homological p h code plus minus x y is;
      quantum = λ x y has_x has_y. cube-quantum p h code plus minus x y is;
      squares = λ x z has_x has_z. cube-squares p h code x z positive is;
    }
