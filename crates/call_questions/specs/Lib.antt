pub mod RowParts
pub mod Values
