pub mod Mapped4
pub mod Cases
