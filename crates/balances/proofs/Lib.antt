pub mod AmountLaws
pub mod TopupLaws
pub mod DebtorLaws
