pub mod Midway
pub mod Remainders
