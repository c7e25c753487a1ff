pub mod AnyCalls
pub mod Claim
