pub mod TickLaws
pub mod StepLaws
pub mod AnyHolidays
