pub mod PassageLaws
pub mod LookupLaws
pub mod LastSourceLaws
