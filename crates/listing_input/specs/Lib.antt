-- How many bytes of the input are read at once.
pub mod Sizes
