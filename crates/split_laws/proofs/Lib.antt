pub mod BlockRanks
pub mod SplitRanks
pub mod RanksFit
pub mod SplitCells
pub mod Halves
