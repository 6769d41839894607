-- Kinds of states: by how many crossings have their 1-smoothing, and by how many circles there are.
use Rattle.std.specs.Prelude.{◌≡◌, ℕ, ◌+◌, ◌-◌, ◌*◌, ◌/◌, ◌%◌, ◌<◌, ◌≤◌, length, nat_eq, Bool, ◌&&◌, slice_index, IsTrue}
use Rattle.std.specs.List.{count_by}
use Rattle.kh_types.specs.Acceptance.{accepted}
use Rattle.kh_types.specs.Circles.{circle_count}
use Rattle.kh_types.specs.Code.{Code, arc_count}
use Rattle.kh_types.specs.Generators.{one_count, states}
use Rattle.kh_types.specs.declared.limits.TheConstants.{CIRCLES, CROSSINGS}
use Rattle.circle_smoothing.specs.Branches.{count_place}
use Rattle.circle_smoothing.specs.declared.branches.TheConstants.{COUNTS}
use Rattle.circle_smoothing.specs.declared.kinds.CountedDiagram.TheInside.{Inside}

-- whether a state is of a kind: so many crossings have their 1-smoothing, and there are so many circles
abbrev pub is_of_kind : Code → ℕ → ℕ → ℕ → Bool
is_of_kind code ones circles state = nat_eq (one_count code state) ones && nat_eq (circle_count code state) circles

-- how many states are of a kind
abbrev pub kind_count : Code → ℕ → ℕ → ℕ
kind_count code ones circles = count_by (is_of_kind code ones circles) (states code)

-- kinds are numbered by their ones, then by their circles
abbrev pub kind_of : ℕ → ℕ → ℕ
kind_of ones circles = ones * (CIRCLES + 1) + circles

-- the ones of a kind
abbrev pub kind_ones : ℕ → ℕ
kind_ones kind = kind / (CIRCLES + 1)

-- the circles of a kind
abbrev pub kind_circles : ℕ → ℕ
kind_circles kind = kind % (CIRCLES + 1)

-- the kind of a state
abbrev pub state_kind : Code → ℕ → ℕ
state_kind code state = kind_of (one_count code state) (circle_count code state)

-- the arcs and loops of a code; each join of two circles makes one circle fewer
abbrev pub arc_and_loop_count : Code → ℕ
arc_and_loop_count code = arc_count code.crossings + code.loops

-- the place at which a state is counted
abbrev pub state_place : Code → ℕ → ℕ
state_place code state = count_place (one_count code state) (arc_and_loop_count code - circle_count code state)

-- contracts see the code of the diagram
abbrev pub code_of_counted : Inside → Code
code_of_counted counted = counted.diagram

-- the diagram's code is accepted and within the limits, and its states are counted
pub record IsCounted (counted : Inside) : Type 0 where
  pub code : IsTrue (accepted counted.diagram)
  pub few : length counted.diagram.crossings ≤ CROSSINGS
  pub size : length counted.counts ≡ COUNTS
  pub counts : (place : ℕ) → place < COUNTS
      → slice_index counted.counts place ≡ count_by (λ state. nat_eq (state_place counted.diagram state) place) (states counted.diagram)
