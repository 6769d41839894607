pub mod Cubes
pub mod Loops
pub mod Pieces
pub mod UnitedRows
pub mod WorkedPieces
