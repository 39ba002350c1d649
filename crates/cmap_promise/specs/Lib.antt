pub mod Cmap
pub mod Fates
