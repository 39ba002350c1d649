pub mod RecordsLaws
pub mod TableLaws
pub mod PlannedLaws
pub mod TablesLaws
pub mod WholeLaws
