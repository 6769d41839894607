pub mod Stops
pub mod Items
pub mod Limits
pub mod Grammar
pub mod Machine
pub mod Reading
pub mod Printing
