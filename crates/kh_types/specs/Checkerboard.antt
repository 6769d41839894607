-- The checkerboard condition.
use Rattle.std.specs.Prelude.{ℕ, ◌+◌, ◌%◌, ◌^◌, ◌<◌, List, length, nat_eq, Bool, IsTrue}
use Rattle.std.specs.List.{list_all, list_any, range_with_len}
use Rattle.kh_types.specs.Code.{place_of, arcs}
use Rattle.kh_types.specs.Bits.{bit}
use Rattle.kh_types.specs.Darts.{first_dart, partner}
use Rattle.kh_types.specs.declared.acceptance.checkerboard.Equation.{Equation}

-- the equation of an arc with the darts (c, p) and (d, q) speaks of the bits x_c and x_d, and of the sum p + q
abbrev pub equation_of : List (List ℕ) → ℕ → Equation
equation_of crossings arc =
    let dart = first_dart crossings arc in
    let other = partner crossings dart in
    record { crossing = dart.crossing; other = other.crossing; slots = dart.slot + other.slot }

-- a choice of one bit x_c for each crossing c is a number below 2 ^ n. It solves an equation where the two bits and the sum of
-- the slots are odd together: x_c + p + x_d + q is odd
abbrev pub is_solved : ℕ → Equation → Bool
is_solved choice equation =
    nat_eq ((bit choice (place_of equation.crossing) + (bit choice (place_of equation.other) + equation.slots)) % 2) 1

-- a choice solves the equation of an arc
abbrev pub solves_at : List (List ℕ) → ℕ → ℕ → Bool
solves_at crossings choice arc = is_solved choice (equation_of crossings arc)

-- a choice solves the equations of the arcs 1 to a
abbrev pub solves_up_to : List (List ℕ) → ℕ → ℕ → Bool
solves_up_to crossings arc choice = list_all (solves_at crossings choice) (range_with_len 1 arc)

-- some choice does
abbrev pub has_choice : List (List ℕ) → ℕ → Bool
has_choice crossings arc = list_any (solves_up_to crossings arc) (range_with_len 0 (2 ^ length crossings))

-- the checkerboard condition: some choice solves the equations of all arcs
pub record IsCheckerboard (crossings : List (List ℕ)) : Type 0 where
  pub choice : ℕ
  pub below : choice < 2 ^ length crossings
  pub solves : IsTrue (list_all (solves_at crossings choice) (arcs crossings))
