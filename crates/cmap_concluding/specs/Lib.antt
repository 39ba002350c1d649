pub mod Concluding
pub mod Found
