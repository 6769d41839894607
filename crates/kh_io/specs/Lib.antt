pub mod Faults
pub mod Prefixes
pub mod Supplies
pub mod MemSources
pub mod Stores
pub mod MemSinks
pub mod Watches
