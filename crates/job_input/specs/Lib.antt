pub mod JobLimits
pub mod Job
pub mod Column
pub mod Room
pub mod Cases
pub mod Bytes
