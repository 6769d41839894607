-- The code of a closed braid.
use Rattle.std.specs.Prelude.{ℕ, zero, suc, ◌+◌, ◌/◌, ◌%◌, ◌<◌, ◌≤◌, ℤ, pos, neg_ℤ, List, [], ◌∷◌, length, map, nat_eq, nat_le, nat_lt, Bool, ◌&&◌, unwrap_or, if◌then◌else◌}
use Rattle.std.specs.List.{count_by, find, list_all, list_any, range_with_len}
use Rattle.kh_types.specs.Code.{Code}
use Rattle.braid_maker.specs.Words.{arc_above, closed_crossings, crossing_of_letter, last_below, touches}
use Rattle.braid_maker.specs.Braids.{lower_left_is_over, is_straight, left_of}
use Rattle.code_passes.specs.Parts.{Parts}
use Rattle.orient_arcs.specs.Renumbered.{renamed_crossing, renumber}

-- the arc through the bottom of a position: it leaves the last crossing there
abbrev pub bottom_arc : ℕ → (ℕ → ℕ) → ℕ → ℕ
bottom_arc n left position = arc_above left position (unwrap_or (last_below (touches left position) n) 0)

-- whether an arc goes through the bottom of a position
abbrev pub is_bottom : ℕ → (ℕ → ℕ) → ℕ → ℕ → Bool
is_bottom n left arc position =
    list_any (touches left position) (range_with_len 0 n) && nat_eq (bottom_arc n left position) arc

-- the name of an arc: the arc through the bottom of a position has that position as its name, and the others have greater names; so
-- a component begins at the bottom of its least position, and components stand in the order of these
abbrev pub arc_name : ℕ → (ℕ → ℕ) → ℕ → ℕ → ℕ
arc_name n left strands arc = unwrap_or (find (is_bottom n left arc) (range_with_len 1 strands)) (strands + arc)

-- the crossing at a place under these names
abbrev pub named_crossing : ℕ → ℕ → (ℕ → ℕ) → (ℕ → Bool) → ℕ → List ℕ
named_crossing strands n left is_over place = renamed_crossing (arc_name n left strands) (crossing_of_letter n left is_over place)

-- the crossings of a closed braid under these names, with their directions; a strand without a crossing is a loop
abbrev pub named_parts : ℕ → ℕ → (ℕ → ℕ) → (ℕ → Bool) → ℕ → Parts
named_parts strands n left is_over loops = record {
  crossings = map (renamed_crossing (arc_name n left strands)) (closed_crossings n left is_over);
  positive = map is_over (range_with_len 0 n);
  loops = loops;
}

-- how many strands pass no crossing
abbrev pub straight_count : ℕ → List ℤ → ℕ
straight_count strands letters = count_by (is_straight letters) (range_with_len 1 strands)

-- the crossings of the closed braid of some letters on some strands, under the names of their arcs, with directions and loops
abbrev pub closure_parts : ℕ → List ℤ → Parts
closure_parts strands letters =
    named_parts strands (length letters) (left_of letters) (lower_left_is_over letters) (straight_count strands letters)

-- the code of the closed braid of some letters on some strands
abbrev pub closure : ℕ → List ℤ → Code
closure strands letters = renumber (closure_parts strands letters)

-- the letter of a digit
abbrev pub letter_of : ℕ → ℤ
letter_of digit =
    if nat_eq digit 0 then pos 1
    else (if nat_eq digit 1 then neg_ℤ (pos 1) else (if nat_eq digit 2 then pos 2 else neg_ℤ (pos 2)))

-- the letters of some digits of a number in base 4, least first
abbrev pub letters_of : ℕ → ℕ → List ℤ
letters_of zero number = []
letters_of (suc count) number = letter_of (number % 4) ∷ letters_of count (number / 4)

-- the code of a number: its ten digits as letters, on three strands
abbrev pub code_of_number : ℕ → Code
code_of_number number = closure 3 (letters_of 10 number)

-- letters of a braid on some strands: each has two neighbouring positions among them
abbrev pub AreLetters : ℕ → List ℤ → Type 0
AreLetters strands letters = (place : ℕ) → place < length letters → (1 ≤ left_of letters place) × (left_of letters place < strands)

-- whether the letter at a place has so; and whether all letters have, as tests
abbrev pub is_letter : ℕ → List ℤ → ℕ → Bool
is_letter strands letters place = nat_le 1 (left_of letters place) && nat_lt (left_of letters place) strands

abbrev pub are_letters : ℕ → List ℤ → Bool
are_letters strands letters = list_all (is_letter strands letters) (range_with_len 0 (length letters))
