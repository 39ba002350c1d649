pub mod CompareLaws
pub mod RowLaws
pub mod StreamsLaws
