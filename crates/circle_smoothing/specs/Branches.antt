-- Branches of the states: the smoothings of the first crossings are chosen, and what they join is known.
use Rattle.std.specs.Prelude.{◌≡◌, ℕ, ◌+◌, ◌-◌, ◌*◌, ◌^◌, ◌<◌, ◌≤◌, List, length, nat_eq}
use Rattle.std.specs.List.{AllByRecursion, count_by, fold, range_with_len}
use Rattle.kh_types.specs.declared.limits.TheConstants.{CROSSINGS}
use Rattle.kh_types.specs.Bits.{ones}
use Rattle.kh_types.specs.Circles.{smoothings_of}
use Rattle.kh_types.specs.Classes.{IsNamed, class_count, joined}
use Rattle.kh_types.specs.Code.{arc_in}
use Rattle.circle_smoothing.specs.declared.branches.Branch.{Branch}
use Rattle.circle_smoothing.specs.declared.branches.TheConstants.{MEMBERS, JOINS}

-- the arcs at the slots of a crossing are below n
abbrev pub HasArcsBelow : ℕ → List ℕ → Type 0
HasArcsBelow n slots = (slot : ℕ) → slot < 4 → arc_in slots slot < n

-- so are those of each crossing of a list
abbrev pub HaveArcsBelow : ℕ → List (List ℕ) → Type 0
HaveArcsBelow n crossings = AllByRecursion (HasArcsBelow n) crossings

-- what a branch keeps: the classes of the numbers below MEMBERS, and how many fewer they are than these
pub record IsBranch (branch : Branch) : Type 0 where
  pub named : IsNamed MEMBERS branch.classes
  pub joins : class_count branch.classes + branch.joins ≡ MEMBERS

-- the branch leaves as many crossings, of at most CROSSINGS
pub record LeavesCrossings (branch : Branch) (rest : ℕ) : Type 0 where
  pub ones : branch.ones + rest ≤ CROSSINGS
  pub joins : branch.joins + 2 * rest ≤ JOINS

-- states are counted by their ones, then by how many fewer classes they have than there are numbers
abbrev pub count_place : ℕ → ℕ → ℕ
count_place ones joins = ones * (JOINS + 1) + joins

-- how many fewer classes there are than numbers, after all smoothings of a state of some crossings have joined arcs
abbrev pub joins_of : List (List ℕ) → List ℕ → ℕ → ℕ
joins_of crossings classes state = MEMBERS - class_count (fold joined classes (smoothings_of crossings state))

-- the place at which a state of some crossings is counted that goes on a branch with some ones and classes
abbrev pub place_on_branch : List (List ℕ) → ℕ → List ℕ → ℕ → ℕ
place_on_branch crossings taken classes state =
    count_place (taken + ones (length crossings) state) (joins_of crossings classes state)

-- how many of the states that go on a branch are counted at a place
abbrev pub branch_count : List (List ℕ) → ℕ → List ℕ → ℕ → ℕ
branch_count crossings taken classes place =
    count_by (λ state. nat_eq (place_on_branch crossings taken classes state) place) (range_with_len 0 (2 ^ length crossings))
