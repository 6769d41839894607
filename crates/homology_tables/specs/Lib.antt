pub mod Tables
pub mod DegreeRows
pub mod WorkedTables
