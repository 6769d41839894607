pub mod Reductions
pub mod StoredColumns
pub mod WorkedColumns
pub mod UnderWay
