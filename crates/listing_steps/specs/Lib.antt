-- What a step of the listing does.
pub mod Steps
