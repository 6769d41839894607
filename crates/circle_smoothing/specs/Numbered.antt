-- What the circles of a state keep.
use Rattle.std.specs.Prelude.{◌≡◌, ◌≤◌, ℕ, List, ◌∷◌, length, map, IsTrue}
use Rattle.kh_types.specs.Acceptance.{accepted}
use Rattle.kh_types.specs.Code.{Code, arcs_and_loops}
use Rattle.kh_types.specs.Circles.{circle_count}
use Rattle.kh_types.specs.declared.limits.TheConstants.{CROSSINGS}
use Rattle.circle_smoothing.specs.CircleNumbers.{Resolution}
use Rattle.kh_types.specs.CircleNumbers.{circle_number}
use Rattle.circle_smoothing.specs.declared.numbered.Circles.TheInside.{Inside}

-- the numbers of the circles of all arcs and loops, in order, after an entry for the number 0
abbrev pub circle_numbers : Code → ℕ → List ℕ
circle_numbers code state = 0 ∷ map (circle_number code state) (arcs_and_loops code)

-- contracts see the code of the diagram and the state
abbrev pub resolution_of_circles : Inside → Resolution
resolution_of_circles circles = record { code = circles.diagram; state = circles.state }

-- the diagram's code is accepted and within the limits; for each arc and loop the number of its circle is kept, and how many
-- circles there are
pub record AreNumberedCircles (circles : Inside) : Type 0 where
  pub code : IsTrue (accepted circles.diagram)
  pub few : length circles.diagram.crossings ≤ CROSSINGS
  pub numbers : circles.numbers.items ≡ circle_numbers circles.diagram circles.state
  pub count : circles.count ≡ circle_count circles.diagram circles.state
