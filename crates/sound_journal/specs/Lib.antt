pub mod Bounds
pub mod Passing
pub mod Marks
