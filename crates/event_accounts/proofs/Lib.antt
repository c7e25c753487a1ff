pub mod OpenLaws
pub mod RequestLaws
pub mod ReserveLaws
pub mod SuccessorLaws
