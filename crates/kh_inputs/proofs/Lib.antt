pub mod PartLemmas
pub mod TextReadings
pub mod TextFaults
pub mod ReadCodes
pub mod DiagramReadings
pub mod ReplyStatuses
