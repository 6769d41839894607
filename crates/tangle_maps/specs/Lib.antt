pub mod Pairings
pub mod Sums
pub mod Chosen
pub mod Seams
pub mod Products
pub mod KeptSeams
pub mod Ways
