-- Parts on which renumbering is computed.
use Rattle.std.specs.Prelude.{ℕ, List, [], ◌∷◌, Bool, true, false}
use Rattle.kh_types.specs.WorkedCodes.{slots_with, hopf_link}
use Rattle.code_passes.specs.Parts.{Parts, parts_of}

abbrev pub with_signs : List (List ℕ) → List Bool → Parts
with_signs crossings positive = record { crossings = crossings; positive = positive; loops = 0 }

-- the trefoil
abbrev pub trefoil_parts : Parts
trefoil_parts = with_signs (slots_with 1 4 2 5 ∷ slots_with 3 6 4 1 ∷ slots_with 5 2 6 3 ∷ []) (false ∷ false ∷ false ∷ [])

-- the trefoil under names with gaps
abbrev pub named_trefoil : Parts
named_trefoil = with_signs (slots_with 7 9 2 4 ∷ slots_with 30 0 9 7 ∷ slots_with 4 2 0 30 ∷ []) (false ∷ false ∷ false ∷ [])

-- a circle of two arcs over another, whose second arc enters its first listed crossing
abbrev pub turned_circle : Parts
turned_circle = with_signs (slots_with 1 3 2 4 ∷ slots_with 2 3 1 4 ∷ []) (true ∷ false ∷ [])

-- a kinked circle under a circle of two arcs, after a slide; the second arc of the circle enters its first listed crossing
abbrev pub slid_triangle : Parts
slid_triangle = with_signs (slots_with 2 5 3 6 ∷ slots_with 3 5 4 6 ∷ slots_with 1 1 2 4 ∷ []) (true ∷ false ∷ true ∷ [])

-- a curl
abbrev pub curl_parts : Parts
curl_parts = with_signs (slots_with 5 5 3 3 ∷ []) (true ∷ [])

-- a crossing whose over pass is a component of one arc
abbrev pub single : Parts
single = with_signs (slots_with 2 1 2 1 ∷ []) (true ∷ [])

-- the mirror image of the trefoil
abbrev pub mirrored : Parts
mirrored = with_signs (slots_with 4 2 5 1 ∷ slots_with 6 4 1 3 ∷ slots_with 2 6 3 5 ∷ []) (true ∷ true ∷ true ∷ [])

-- the trefoil with the other direction
abbrev pub reversed : Parts
reversed = with_signs (slots_with 2 5 1 4 ∷ slots_with 4 1 3 6 ∷ slots_with 6 3 5 2 ∷ []) (false ∷ false ∷ false ∷ [])

-- the Hopf link, with its own directions
abbrev pub hopf_parts : Parts
hopf_parts = parts_of hopf_link
