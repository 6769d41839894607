-- Closed braids of letters.
use Rattle.std.specs.Prelude.{ℕ, ℤ, pos, List, length, get_or, int_lt, nat_abs, Bool, not}
use Rattle.std.specs.List.{count_by, list_any, range_with_len}
use Rattle.kh_types.specs.Code.{Code}
use Rattle.braid_maker.specs.Words.{touches, closed_crossings}

-- the letter at a place
abbrev pub letter_at : List ℤ → ℕ → ℤ
letter_at letters place = get_or letters place (pos 0)

-- the position at the left of a letter's crossing
abbrev pub left_of : List ℤ → ℕ → ℕ
left_of letters place = nat_abs (letter_at letters place)

-- whether the strand from the lower left is over
abbrev pub lower_left_is_over : List ℤ → ℕ → Bool
lower_left_is_over letters place = int_lt (pos 0) (letter_at letters place)

-- the crossings of the closed braid of some letters, in their order
abbrev pub braid_crossings : List ℤ → List (List ℕ)
braid_crossings letters = closed_crossings (length letters) (left_of letters) (lower_left_is_over letters)

-- whether the strand at a position passes no crossing
abbrev pub is_straight : List ℤ → ℕ → Bool
is_straight letters position = not (list_any (touches (left_of letters) position) (range_with_len 0 (length letters)))

-- the code before its arcs are numbered: a strand without a crossing is a loop
abbrev pub braid_code : ℕ → List ℤ → Code
braid_code strands letters = record {
  crossings = braid_crossings letters;
  loops = count_by (is_straight letters) (range_with_len 1 strands);
}
