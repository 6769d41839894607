pub mod Surfaces
pub mod Cuts
pub mod Projections
pub mod Worked
pub mod Overlays
pub mod Points
pub mod Sheets
