pub mod Reduced
pub mod Stops
pub mod Marks
pub mod Degrees
