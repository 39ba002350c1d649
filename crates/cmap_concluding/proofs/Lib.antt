pub mod PassingLaws
pub mod AnswerLaws
pub mod FateLaws
