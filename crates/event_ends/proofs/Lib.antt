pub mod AddedLaws
pub mod PutLaws
