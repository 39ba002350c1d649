pub mod OutputLaws
pub mod AnsweredLaws
