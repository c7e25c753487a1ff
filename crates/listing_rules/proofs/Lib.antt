pub mod Examples
pub mod LengthLaws
pub mod LineLaws
