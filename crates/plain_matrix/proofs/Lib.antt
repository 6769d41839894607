pub mod FieldInverses
pub mod EliminationRanks
pub mod StepLemmas
pub mod InsideLemmas
pub mod TransposeLemmas
pub mod RowLemmas
pub mod EliminationLemmas
pub mod ScaledRanks
