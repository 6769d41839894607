mod Spellings
mod SoFar
mod MachineReads
pub mod PassLemmas
mod FewNumbers
mod PlaceLemmas
pub mod ReadingLemmas
mod FaultLemmas
pub mod ComponentLabels
pub mod PrintedTexts
pub mod Bodies
pub mod ListedPasses
pub mod GoodListings
pub mod PrintedCodes
