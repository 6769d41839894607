pub mod Pairings
pub mod Steps
pub mod Codes
pub mod Saddles
pub mod Labels
pub mod Entries
pub mod Worked
