pub mod Labels
pub mod Passes
pub mod ComponentLabels
pub mod Parts
