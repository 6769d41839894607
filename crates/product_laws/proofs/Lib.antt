pub mod PairLists
pub mod PairCoefficients
pub mod Squares
pub mod OnePivot
pub mod Reductions
pub mod Turned
pub mod Counts
pub mod Kuenneth
