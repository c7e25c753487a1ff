pub mod StageLaws
pub mod MidwayLaws
