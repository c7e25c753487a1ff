pub mod RunLaws
pub mod Contracts
