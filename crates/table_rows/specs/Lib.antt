pub mod Reads
pub mod UsedRows
