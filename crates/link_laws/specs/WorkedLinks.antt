-- Diagrams of known links, on which it is tried whether they are one.
use Rattle.std.specs.Prelude.{[], ◌∷◌}
use Rattle.kh_types.specs.Code.{Code}
use Rattle.kh_types.specs.WorkedCodes.{slots_with, without_loops}

-- the trefoil with a positive kink on its first arc
abbrev pub kinked_trefoil : Code
kinked_trefoil = without_loops (slots_with 3 6 4 7 ∷ slots_with 5 8 6 1 ∷ slots_with 7 4 8 5 ∷ slots_with 1 3 2 2 ∷ [])

-- the trefoil with the last of its crossings first
abbrev pub turned_trefoil_list : Code
turned_trefoil_list = without_loops (slots_with 5 2 6 3 ∷ slots_with 1 4 2 5 ∷ slots_with 3 6 4 1 ∷ [])

-- a circle of two arcs over a curl, before it is slid over the curl's crossing
abbrev pub circle_before : Code
circle_before = without_loops (slots_with 1 6 2 5 ∷ slots_with 4 6 1 5 ∷ slots_with 2 4 3 3 ∷ [])

-- and behind it
abbrev pub circle_behind : Code
circle_behind = without_loops (slots_with 2 6 3 5 ∷ slots_with 3 6 4 5 ∷ slots_with 1 1 2 4 ∷ [])
