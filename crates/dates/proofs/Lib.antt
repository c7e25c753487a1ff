-- The definitions and laws that the proofs of this crate cite.
pub mod EstimateLaws
pub mod GregorianLaws
pub mod MonthPass
pub mod MonthPassLaws
pub mod WeekdayLaws
