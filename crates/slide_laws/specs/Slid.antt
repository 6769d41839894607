-- The rewriting of a third Reidemeister move, by the darts of its triangle.
use Rattle.std.specs.Prelude.{ℕ, ◌+◌, ◌-◌, ◌*◌, ◌/◌, ◌%◌, List, [], ◌∷◌, length, map, nat_eq, slice_index, if◌then◌else◌}
use Rattle.std.specs.List.{range_with_len}
use Rattle.kh_types.specs.Code.{Code}
use Rattle.gluing_laws.specs.Codes.{arc_of_dart}

-- the dart some slots on from a dart, counterclockwise round the same crossing
abbrev pub on : ℕ → ℕ → ℕ
on place steps = 4 * (place / 4) + (place % 4 + steps) % 4

-- how many slots a dart is on from another of the same crossing
abbrev pub steps_from : ℕ → ℕ → ℕ
steps_from from place = (place % 4 + 4 - from % 4) % 4

-- the darts whose arcs come to the slots of a corner of the triangle, from its dart on. The face goes on to the dart next, and comes
-- from the dart last. The side to next is the arc of on next 1, the side to last that of last. The corner's first two slots get what
-- stood behind the crossings of next and of last, and its other two get the two sides, each on its own strand
abbrev pub corner : ℕ → ℕ → List ℕ
corner next last = on next 3 ∷ on last 2 ∷ on next 1 ∷ last ∷ []

-- the dart whose arc comes to a dart, for the triangle of the face that goes from x to y to z
abbrev pub source : ℕ → ℕ → ℕ → ℕ → ℕ
source x y z place =
    if nat_eq (place / 4) (x / 4) then slice_index (corner y z) (steps_from x place)
    else if nat_eq (place / 4) (y / 4) then slice_index (corner z x) (steps_from y place)
    else if nat_eq (place / 4) (z / 4) then slice_index (corner x y) (steps_from z place)
    else place

-- a crossing after the slide
abbrev pub slid_crossing : List (List ℕ) → ℕ → ℕ → ℕ → ℕ → List ℕ
slid_crossing crossings x y z crossing =
    map (λ slot. arc_of_dart crossings (source x y z (4 * crossing + slot))) (range_with_len 0 4)

-- all crossings after the slide; their signs stay
abbrev pub slid : List (List ℕ) → ℕ → ℕ → ℕ → List (List ℕ)
slid crossings x y z = map (slid_crossing crossings x y z) (range_with_len 0 (length crossings))

-- the code after the slide, with the arcs' old numbers
abbrev pub slid_code : Code → ℕ → ℕ → ℕ → Code
slid_code code x y z = record { crossings = slid code.crossings x y z; loops = code.loops }
