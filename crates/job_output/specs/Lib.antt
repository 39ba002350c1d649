pub mod Output
pub mod Answered
