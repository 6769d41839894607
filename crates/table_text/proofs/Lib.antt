pub mod LineLemmas
pub mod LineTexts
pub mod RowOrder
pub mod TableLines
pub mod VersionTexts
pub mod Decisions
pub mod ReadingLemmas
