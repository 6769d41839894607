-- Crossings in a closed braid, by their places in a word, and where each strand comes from.
use Rattle.std.specs.Prelude.{ℕ, zero, suc, ◌+◌, ◌*◌, List, [], ◌∷◌, map, nat_eq, Bool, ◌||◌, Option, Some, None, unwrap_or, if◌then◌else◌}
use Rattle.std.specs.List.{range_with_len}
use Rattle.std.specs.Option.{option_or}

-- the last place below k that passes a test
abbrev pub last_below : (ℕ → Bool) → ℕ → Option ℕ
last_below test zero = None
last_below test (suc k) = if test k then Some k else last_below test k

-- the place that passes a test and comes last before k, going round n places: the last below k, or else the last of all; the other
-- number where there is none
abbrev pub previous : ℕ → (ℕ → Bool) → ℕ → ℕ → ℕ
previous n test other k = unwrap_or (option_or (last_below test k) (last_below test n)) other

-- whether the letter at a place has its crossing on the strand at a position: at its left position, or at the next
abbrev pub touches : (ℕ → ℕ) → ℕ → ℕ → Bool
touches left position place = nat_eq (left place) position || nat_eq (left place + 1) position

-- the arc that leaves the crossing at a place upwards at a position: the crossing at the place i has the arcs 2i + 1 at its upper left
-- and 2i + 2 at its upper right
abbrev pub arc_above : (ℕ → ℕ) → ℕ → ℕ → ℕ
arc_above left position place = if nat_eq (left place) position then 2 * place + 1 else 2 * place + 2

-- the arc that comes in from below at a position: from the last crossing before, going round, that the strand there passes
abbrev pub arc_below : ℕ → (ℕ → ℕ) → ℕ → ℕ → ℕ
arc_below n left position place = arc_above left position (previous n (touches left position) 0 place)

-- the crossing at a place, counterclockwise from where the under strand comes in: from the lower right where the strand from the lower
-- left is over, else from the lower left
abbrev pub crossing_of_letter : ℕ → (ℕ → ℕ) → (ℕ → Bool) → ℕ → List ℕ
crossing_of_letter n left is_over place =
    let lower_left = arc_below n left (left place) place in
    let lower_right = arc_below n left (left place + 1) place in
    let upper_left = 2 * place + 1 in
    let upper_right = 2 * place + 2 in
    if is_over place then lower_right ∷ upper_right ∷ upper_left ∷ lower_left ∷ []
    else lower_left ∷ lower_right ∷ upper_right ∷ upper_left ∷ []

-- the crossings of a closed braid of n letters
abbrev pub closed_crossings : ℕ → (ℕ → ℕ) → (ℕ → Bool) → List (List ℕ)
closed_crossings n left is_over = map (crossing_of_letter n left is_over) (range_with_len 0 n)
