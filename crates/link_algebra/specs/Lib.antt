pub mod Mirrors
pub mod Unions
