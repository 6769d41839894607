pub mod Coefficients
pub mod Kinds
pub mod Terms
