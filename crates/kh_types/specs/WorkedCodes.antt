-- Codes of known diagrams, on which the definitions are computed.
use Rattle.std.specs.Prelude.{ℕ, List, [], ◌∷◌}
use Rattle.kh_types.specs.Code.{Code}

-- the slots of a crossing, each by its arc
abbrev pub slots_with : ℕ → ℕ → ℕ → ℕ → List ℕ
slots_with i j k l = i ∷ j ∷ k ∷ l ∷ []

-- the code of some crossings, without loops
abbrev pub without_loops : List (List ℕ) → Code
without_loops crossings = record { crossings = crossings; loops = 0 }

-- the empty link
abbrev pub empty_link : Code
empty_link = without_loops []

-- the unknot as one crossingless loop
abbrev pub one_loop : Code
one_loop = record { crossings = []; loops = 1 }

-- the unknot with one positive curl
abbrev pub curl : Code
curl = without_loops (slots_with 1 1 2 2 ∷ [])

-- two curls that lie apart
abbrev pub two_curls : Code
two_curls = without_loops (slots_with 1 1 2 2 ∷ slots_with 3 3 4 4 ∷ [])

-- a circle of two arcs, 3 and 4, that lies over another
abbrev pub over_circle : Code
over_circle = without_loops (slots_with 1 4 2 3 ∷ slots_with 2 4 1 3 ∷ [])

-- the Hopf link
abbrev pub hopf_link : Code
hopf_link = without_loops (slots_with 4 1 3 2 ∷ slots_with 2 3 1 4 ∷ [])

-- the left-handed trefoil (Knot Atlas, 3_1)
abbrev pub trefoil : Code
trefoil = without_loops (slots_with 1 4 2 5 ∷ slots_with 3 6 4 1 ∷ slots_with 5 2 6 3 ∷ [])

-- the figure eight knot (Knot Atlas, 4_1)
abbrev pub figure_eight : Code
figure_eight = without_loops (slots_with 4 2 5 1 ∷ slots_with 8 6 1 5 ∷ slots_with 6 3 7 4 ∷ slots_with 2 7 3 8 ∷ [])

-- the trefoil with its first crossing turned, which is drawn on a torus
abbrev pub turned_trefoil : Code
turned_trefoil = without_loops (slots_with 1 5 2 4 ∷ slots_with 3 6 4 1 ∷ slots_with 5 2 6 3 ∷ [])

-- the virtual trefoil
abbrev pub virtual_trefoil : Code
virtual_trefoil = without_loops (slots_with 3 1 4 2 ∷ slots_with 4 2 1 3 ∷ [])
