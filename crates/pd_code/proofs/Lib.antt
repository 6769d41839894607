mod Spellings
mod SoFar
mod MachineReads
pub mod PrintingLemmas
pub mod ReadingLemmas
pub mod AcceptedSlots
