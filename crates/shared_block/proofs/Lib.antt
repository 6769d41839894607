pub mod BlockDimensions
pub mod PlaceSums
pub mod CommitLemmas
pub mod PivotTests
pub mod BlockRows
pub mod Blocks
pub mod AllBlocks
