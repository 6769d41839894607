-- What slices join, one after another, by the row of open ends.
use Rattle.std.specs.Prelude.{ℕ, ◌+◌, List, [], ◌∷◌, Option, Some, None, Err, Result}
use Rattle.morse_drawing.specs.declared.fault.SliceFault.{SliceFault}
use Rattle.morse_drawing.specs.Joins.{JoinedDarts}
use Rattle.morse_drawing.specs.declared.slice.Slice.{Slice}
use Rattle.morse_drawing.specs.OpenEnds.{OpenEnds, no_strands, after_slice, strands_fault, strands_ends}

-- the first fault is answered
abbrev pub joins_go : Option SliceFault → Result JoinedDarts SliceFault → Result JoinedDarts SliceFault
joins_go None later = later
joins_go (Some fault) later = Err fault

-- what slices join, behind others, or the first fault
abbrev pub joins_from : ℕ → OpenEnds → ℕ → List Slice → Result JoinedDarts SliceFault
joins_from limit s number [] = strands_ends limit s
joins_from limit s number (slice ∷ slices) = joins_go (strands_fault limit s number slice) (joins_from limit (after_slice s slice) (number + 1) slices)

-- what slices join, by the row of open ends
abbrev pub joined_by_ends : ℕ → List Slice → Result JoinedDarts SliceFault
joined_by_ends limit slices = joins_from limit (no_strands limit) 1 slices
