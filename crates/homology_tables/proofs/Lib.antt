pub mod TableLemmas
pub mod DegreeRows
pub mod BlockTables
pub mod OutsideExponents
