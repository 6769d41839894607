-- Slices that have their places, one below another.
use Rattle.std.specs.Prelude.{ℕ, List, [], ◌∷◌}
use Rattle.morse_drawing.specs.declared.slice.Slice.{Slice}
use Rattle.morse_drawing.specs.Texts.{strands_after, IsPlaced}

-- each slice has its place, below a row of some strands
abbrev pub ArePlaced : ℕ → List Slice → Type 0
ArePlaced strands [] = Unit {0}
ArePlaced strands (slice ∷ slices) = IsPlaced strands slice × ArePlaced (strands_after strands slice) slices
