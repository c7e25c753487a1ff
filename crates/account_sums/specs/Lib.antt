pub mod Tallies
pub mod AccountSums
