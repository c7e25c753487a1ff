-- What taking a line does.
pub mod Lines
