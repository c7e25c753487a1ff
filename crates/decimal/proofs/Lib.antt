-- The laws that the proofs of this crate cite.
pub mod Examples
pub mod FieldLaws
pub mod FindLaws
pub mod PartLaws
pub mod ReadingLaws
pub mod RoundTrip
pub mod WritingLaws
