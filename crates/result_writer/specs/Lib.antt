pub mod RecordParts
pub mod TableParts
pub mod Writing
