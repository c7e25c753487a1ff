pub mod OpenedLaws
