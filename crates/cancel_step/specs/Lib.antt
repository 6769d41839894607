pub mod Copies
pub mod Sides
pub mod Foreign
pub mod Lines
pub mod Spans
pub mod Updates
