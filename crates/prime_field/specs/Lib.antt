pub mod Residues
pub mod SmallFields
pub mod Sizes
