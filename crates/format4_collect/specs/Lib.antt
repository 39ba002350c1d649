pub mod Downward
pub mod Walks
