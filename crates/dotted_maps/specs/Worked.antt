-- Small pairings.
use Rattle.std.specs.Prelude.{ℕ, List, [], ◌∷◌}
use Rattle.surface_laws.specs.Points.{Points}
use Rattle.dotted_maps.specs.declared.term.Term.{Term}

-- four opened arcs, and both ways to pair them without crossings
abbrev pub four_arcs : Points
four_arcs = record { size = 5; opened = 1 ∷ 2 ∷ 3 ∷ 4 ∷ []; alive = 1 ∷ 2 ∷ 3 ∷ 4 ∷ [] }

abbrev pub across : List (ℕ × ℕ)
across = (1, 2) ∷ (3, 4) ∷ []

abbrev pub along : List (ℕ × ℕ)
along = (1, 4) ∷ (3, 2) ∷ []

-- six opened arcs, around a hexagon
abbrev pub six_arcs : Points
six_arcs = record { size = 7; opened = 1 ∷ 2 ∷ 3 ∷ 4 ∷ 5 ∷ 6 ∷ []; alive = 1 ∷ 2 ∷ 3 ∷ 4 ∷ 5 ∷ 6 ∷ [] }

-- their pairing by the chords that are parallel to the side 1 2; like the next two it is drawn without crossings. Any two of the three make
-- one disc, so with three faces and three strips all three make a torus
abbrev pub beside_12 : List (ℕ × ℕ)
beside_12 = (1, 2) ∷ (3, 6) ∷ (4, 5) ∷ []

-- by those that are parallel to the side 2 3
abbrev pub beside_23 : List (ℕ × ℕ)
beside_23 = (1, 4) ∷ (2, 3) ∷ (5, 6) ∷ []

-- and to the side 3 4
abbrev pub beside_34 : List (ℕ × ℕ)
beside_34 = (1, 6) ∷ (2, 5) ∷ (3, 4) ∷ []

-- a term
abbrev pub times_dots : ℕ → ℕ → Term
times_dots coefficient dots = record { dots = dots; coefficient = coefficient }
