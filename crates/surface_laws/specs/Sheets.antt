-- The surface between two pairings and what is joined outside.
use Rattle.std.specs.Prelude.{ℕ, ◌-◌, ◌*◌, List, [], ◌++◌, map}
use Rattle.std.specs.List.{enumerate_from}
use Rattle.kh_types.specs.Bits.{bit}
use Rattle.surface_laws.specs.Surfaces.{Surface}
use Rattle.surface_laws.specs.Points.{Points}

-- faces at some places, with a dot where the number's bit is 1
abbrev pub marked : ℕ → List ℕ → List (ℕ × ℕ)
marked number places = map (λ at. (at.1, bit number at.0)) (enumerate_from 0 places)

-- and with a hollow dot where it is 0
abbrev pub marked_else : ℕ → List ℕ → List (ℕ × ℕ)
marked_else number places = map (λ at. (at.1, 2 * (1 - bit number at.0))) (enumerate_from 0 places)

-- the surface between two pairings m and n and what w joins outside, with some faces: one half strip at each opened arc
abbrev pub sheet : Points → List (ℕ × ℕ) → List (ℕ × ℕ) → List (ℕ × ℕ) → List (ℕ × ℕ) → Surface
sheet points m n w faces = record {
  size = points.size;
  places = points.alive;
  joins = m ++ (n ++ w);
  faces = faces;
  lowers = points.opened;
  raises = [];
}
