pub mod Format4
pub mod Size
pub mod Walk
