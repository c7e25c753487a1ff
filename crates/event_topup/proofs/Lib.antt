pub mod ResultLaws
pub mod PaidLaws
pub mod DeclinedLaws
