pub mod Pairs
pub mod Sizes
