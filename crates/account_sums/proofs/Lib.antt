pub mod TallyLaws
pub mod SumsLaws
pub mod AccountSumsLaws
