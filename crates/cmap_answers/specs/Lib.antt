pub mod Answers
pub mod Case
