pub mod AnswersLaws
pub mod ReadsLaws
pub mod JobLaws
pub mod CaseLaws
pub mod CallLaws
