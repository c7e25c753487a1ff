pub mod Entries
pub mod Replay
pub mod Demand3
