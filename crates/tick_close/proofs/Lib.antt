pub mod CloseLaws
pub mod ClosedBookLaws
