pub mod BlockHistories
pub mod Commits
pub mod AllBlocks
pub mod ColumnBlocks
