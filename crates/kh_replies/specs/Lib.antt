pub mod Limits
pub mod Jones
pub mod Convert
pub mod Draw
pub mod Turns
pub mod Union
pub mod Check
