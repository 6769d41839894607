pub mod Matrices
pub mod Inside
pub mod Ranks
pub mod Steps
pub mod Scaled
