pub mod Codes
pub mod Numbers
pub mod Outcomes
pub mod Limits
pub mod Updates
pub mod AccountOperations
pub mod Layout
pub mod Encoding
