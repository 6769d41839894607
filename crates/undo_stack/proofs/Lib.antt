mod Loops
mod Readings
mod ScheduleLines
pub mod ScheduleReadings
pub mod ListEnds
pub mod HistorySteps
pub mod MoveLemmas
pub mod HistoryLemmas
pub mod EditedParts
mod EditLines
pub mod EditReadings
