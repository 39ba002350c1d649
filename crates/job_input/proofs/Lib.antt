pub mod JobLaws
pub mod ColumnLaws
pub mod CasesLaws
pub mod BytesLaws
pub mod OnlyBytesLaws
