pub mod ScanRuns
pub mod SmallRows
