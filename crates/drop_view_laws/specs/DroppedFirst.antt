-- Crossings brought to the front, and views of a code whose kink or bigon stands there, and of the code that is left.
use Rattle.std.specs.Prelude.{ℕ, ◌+◌, List, [], ◌∷◌, ◌++◌, nat_eq, not, ◌||◌, if◌then◌else◌}
use Rattle.std.specs.List.{filter}
use Rattle.kh_types.specs.Code.{Code, arcs_and_loops}
use Rattle.view_laws.specs.Views.{View}
use Rattle.view_laws.specs.Fronts.{first_to, place_behind, closed_one}

-- crossings with those at two places first: the second, then the first
abbrev pub two_first : ℕ → ℕ → List (List ℕ) → List (List ℕ)
two_first c d crossings = first_to (place_behind c d) (first_to c crossings)

-- all arcs and loops but two sides, which may be one
abbrev pub names_but : Code → ℕ → ℕ → List ℕ
names_but code a b = filter (λ x. not (nat_eq x a || nat_eq x b)) (arcs_and_loops code)

-- a code seen through all its arcs and loops but two sides, of which the first closes at one state of the inner crossings
abbrev pub view_but : Code → ℕ → ℕ → ℕ → ℕ → View
view_but code inner a b closed = record { inner = inner; names = names_but code a b; arc = λ x. x; closed = closed_one a closed }

-- the code that is left, seen through the same names, each by its number
abbrev pub view_left : Code → ℕ → ℕ → (ℕ → ℕ) → View
view_left code a b number = record { inner = 0; names = names_but code a b; arc = number; closed = λ inside. [] }
