-- The view round a triangle, and its crossings brought to the front.
use Rattle.std.specs.Prelude.{ℕ, List, nat_eq, Bool, not, ◌||◌}
use Rattle.std.specs.List.{filter}
use Rattle.kh_types.specs.Code.{Code, arcs_and_loops}
use Rattle.view_laws.specs.Views.{View}
use Rattle.view_laws.specs.Fronts.{first_to, place_behind, closed_one}

-- whether a number is a side
abbrev pub is_side : (ℕ → ℕ) → ℕ → Bool
is_side arcs x = nat_eq x (arcs 7) || (nat_eq x (arcs 8) || nat_eq x (arcs 9))

-- all arcs and loops but the sides
abbrev pub names_but_sides : Code → (ℕ → ℕ) → List ℕ
names_but_sides code arcs = filter (λ x. not (is_side arcs x)) (arcs_and_loops code)

-- the view round a triangle whose crossings are the first three: through all arcs and loops but its sides, which close at one inner state
abbrev pub slide_view : Code → (ℕ → ℕ) → ℕ → View
slide_view code arcs closed =
    record { inner = 3; names = names_but_sides code arcs; arc = λ x. x; closed = closed_one (arcs 7) closed }

-- crossings with those at three places first, in this order
abbrev pub three_first : ℕ → ℕ → ℕ → List (List ℕ) → List (List ℕ)
three_first c d e crossings =
    first_to (place_behind (place_behind e d) (place_behind e c)) (first_to (place_behind e d) (first_to e crossings))
