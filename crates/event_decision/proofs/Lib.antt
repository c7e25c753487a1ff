pub mod FeeLaws
pub mod AnswerLaws
pub mod DecisionLaws
