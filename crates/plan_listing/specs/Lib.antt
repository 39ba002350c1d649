pub mod Job
pub mod Lent
pub mod Listing
