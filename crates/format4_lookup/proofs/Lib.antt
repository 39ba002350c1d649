pub mod FitsLaws
pub mod LookupLaws
pub mod ColumnsAtLaws
pub mod Format4KindLaws
pub mod ColumnsFindLaws
pub mod Format4FindsLaws
pub mod LoneLaws
