pub mod LogLaws
pub mod SubtableLaws
