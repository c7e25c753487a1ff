pub mod WordLaws
pub mod ChangeLaws
pub mod PutLaws
