pub mod KnownBytes
pub mod FaultCounts
