pub mod Questions
pub mod Frames
pub mod Answered
pub mod ListRuns
pub mod Scans
pub mod Turns
