pub mod BookLaws
pub mod MeasureLaws
