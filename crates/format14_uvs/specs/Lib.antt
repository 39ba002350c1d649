pub mod Tables
pub mod NonDefault
pub mod Default
pub mod Checksum
