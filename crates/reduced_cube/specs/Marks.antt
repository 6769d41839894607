-- Marked arcs and loops, and their circles.
use Rattle.std.specs.Prelude.{◌≡◌, ℕ, List, map}
use Rattle.kh_types.specs.Code.{Code}
use Rattle.kh_types.specs.CircleNumbers.{circle_number, IsName}
use Rattle.kh_types.specs.Generators.{states}

-- for each state the number of the circle that the mark is on
unfoldable pub marked_circles : Code → ℕ → List ℕ
marked_circles code mark = map (λ state. circle_number code state mark) (states code)

-- a code with a mark
pub record Marked : Type 0 where
  pub code : Code
  pub mark : ℕ

-- these two
abbrev pub marked_with : Code → ℕ → Marked
marked_with code mark = record { code = code; mark = mark }

-- the mark is an arc or a loop, and these are its circles
pub record IsMarked (code : Code) (mark : ℕ) (circles : List ℕ) : Type 0 where
  pub name : IsName code mark
  pub circles_are : circles ≡ marked_circles code mark
