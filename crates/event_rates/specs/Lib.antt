pub mod Classes
pub mod Places
