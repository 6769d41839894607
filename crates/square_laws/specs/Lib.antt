pub mod Squares
pub mod NextDegrees
pub mod VirtualCodes
pub mod Deformed
pub mod RaisedDegrees
