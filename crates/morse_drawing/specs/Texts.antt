-- The text of a drawing: a line for each slice, with a cell for each strand that passes by.
use Rattle.std.specs.Prelude.{ℕ, ◌<◌, ◌≤◌, ◌+◌, ◌-◌, ◌%◌, List, [], ◌∷◌, ◌++◌, codes, nat_eq, replicate, if◌then◌else◌}
use Rattle.std.specs.List.{flat_map, fold}
use Rattle.std.specs.Fmt.{decimal}
use Rattle.morse_drawing.specs.declared.slice.Slice.{Slice}
use Rattle.morse_drawing.specs.declared.slice.Slice.TheVariants.{Cap, Cup, Cross}
use Rattle.morse_drawing.specs.declared.limits.TheConstants.{CAP_STRANDS}

-- the position of a slice in the row, from 1
abbrev pub position_at : Slice → ℕ
position_at (Cap at) = at
position_at (Cup at) = at
position_at (Cross at crossing slot) = at

-- how many strands there are behind a slice, where so many are before it
abbrev pub strands_after : ℕ → Slice → ℕ
strands_after strands (Cap at) = strands + 2
strands_after strands (Cup at) = strands - 2
strands_after strands (Cross at crossing slot) = strands

-- how many strands there are behind slices, from the top of the page on
abbrev pub strands_behind : List Slice → ℕ
strands_behind slices = fold strands_after 0 slices

-- how many strands pass by a slice: all, or all but the two that end or cross there
abbrev pub passing : ℕ → Slice → ℕ
passing strands (Cap at) = strands
passing strands (Cup at) = strands - 2
passing strands (Cross at crossing slot) = strands - 2

-- the word of a slice: of the two strands that cross, the one from upper right to lower left is over where the slot is even
abbrev pub slice_word : Slice → List ℕ
slice_word (Cap at) = codes "open"
slice_word (Cup at) = codes "close"
slice_word (Cross at crossing slot) = if nat_eq (slot % 2) 0 then codes "right" else codes "left"

-- the cell of a slice
abbrev pub slice_cell : Slice → List ℕ
slice_cell (Cap at) = codes "/\\"
slice_cell (Cup at) = codes "\\/"
slice_cell (Cross at crossing slot) = if nat_eq (slot % 2) 0 then codes "-/" else codes "\\-"

-- the cell of a strand that passes by
abbrev pub bar : List ℕ
bar = codes "|"

-- the cells of a line: the slice's own, and those of the strands at its left and at its right
abbrev pub cells : ℕ → Slice → List (List ℕ)
cells strands slice =
    replicate (position_at slice - 1) bar ++ slice_cell slice ∷ replicate (passing strands slice + 1 - position_at slice) bar

-- a slice has its place in a row of some strands: at its position there can begin two strands, or there are two
abbrev pub IsPlaced : ℕ → Slice → Type 0
IsPlaced strands (Cap at) = (1 ≤ at) × (at ≤ strands + 1) × (strands ≤ CAP_STRANDS)
IsPlaced strands (Cup at) = (1 ≤ at) × (at < strands)
IsPlaced strands (Cross at crossing slot) = (1 ≤ at) × (at < strands)

-- a cell stands behind a space
abbrev pub cell_text : List ℕ → List ℕ
cell_text cell = 32 ∷ cell

-- the cells of some strands that pass by
abbrev pub bars : ℕ → List ℕ
bars count = flat_map cell_text (replicate count bar)

-- the line of a slice
abbrev pub line_text : ℕ → Slice → List ℕ
line_text strands slice =
    slice_word slice ++ (codes " " ++ (decimal (position_at slice) ++ (codes ":" ++ (flat_map cell_text (cells strands slice) ++ codes "\n"))))

-- the lines of slices, below a row of some strands
abbrev pub lines_below : ℕ → List Slice → List ℕ
lines_below strands [] = []
lines_below strands (slice ∷ slices) = line_text strands slice ++ lines_below (strands_after strands slice) slices

-- the text of a drawing
abbrev pub drawing_text : List Slice → List ℕ
drawing_text slices = lines_below 0 slices
