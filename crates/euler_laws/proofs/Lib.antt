pub mod GeneratorCounts
pub mod TableSums
