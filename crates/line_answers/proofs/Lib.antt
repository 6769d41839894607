mod HeldBytes
pub mod FrameLists
mod AnsweredLists
mod Numbering
mod Progress
mod Endings
pub mod ListEnds
mod TurnEnds
mod FrameReadings
