pub mod Matrices
pub mod Placed
