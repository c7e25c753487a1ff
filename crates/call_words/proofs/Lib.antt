pub mod AnswerLaws
pub mod WrittenLaws
