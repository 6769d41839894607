pub mod Lines
pub mod Versions
pub mod Reading
pub mod Words
