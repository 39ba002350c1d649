pub mod Fits4
