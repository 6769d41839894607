pub mod PlacedSlices
pub mod JoinedBySteps
pub mod RowPlaces
pub mod NextPages
mod Parts
mod Helpers
mod Links
mod Neighbours
mod RowMoves
mod RowRules
mod SketchParts
mod CupSketches
mod CrossSketches
mod BegunSketches
mod PageLemmas
mod PageSteps
mod PageEnds
mod PieceCounts
mod Faults
mod Loops
mod Pairs
mod ReadBack
mod StepLemmas
mod StrandCounts
mod Drawn
mod TextLemmas
mod RowEdits
mod NumberedEnds
mod EndTimes
mod Ends
mod TiedEnds
mod EndMoves
mod EndAnswers
mod MetEnds
mod HeldEnds
mod HeldCross
mod EndNumbers
mod JoinedEnds
mod EndLemmas
mod FoundPairs
mod ReadSlices
mod RulePages
