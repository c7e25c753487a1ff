pub mod UsedLaws
pub mod OnDayLaws
