-- The laws that the proofs of the users of this crate cite.
pub mod TakenLaws
