pub mod PassageLaws
pub mod TreeLaws
