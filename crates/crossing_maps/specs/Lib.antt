pub mod Partners
pub mod Sites
pub mod Counts
pub mod AddedSeams
pub mod NewTerms
pub mod Bridges
pub mod ListedPlaces
pub mod Sides
