pub mod BigEndian
pub mod Limits
pub mod Row
