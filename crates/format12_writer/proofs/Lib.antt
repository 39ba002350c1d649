pub mod WritingLaws
pub mod SubtableLaws
