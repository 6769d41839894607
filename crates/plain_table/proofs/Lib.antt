pub mod CircleLemmas
pub mod CoefficientLemmas
pub mod GeneratorLemmas
pub mod LabelLemmas
pub mod MatrixLemmas
pub mod TableLemmas
