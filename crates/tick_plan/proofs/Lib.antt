pub mod MarkLaws
pub mod CountLaws
