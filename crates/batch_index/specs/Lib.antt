pub mod Money
pub mod Slots
pub mod Index
