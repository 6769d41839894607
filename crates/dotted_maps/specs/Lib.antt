pub mod Terms
pub mod Composition
pub mod Maps
pub mod Parts
pub mod Choices
pub mod Worked
