pub mod BigEndianLaws
pub mod RowLaws
pub mod StandsLaws
