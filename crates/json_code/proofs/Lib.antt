mod Elements
mod Counts
mod Crossings
pub mod Readings
