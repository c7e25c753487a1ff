pub mod EncodingLaws
pub mod FieldLaws
pub mod WordLaws
pub mod OutcomeLaws
pub mod AccountLaws
