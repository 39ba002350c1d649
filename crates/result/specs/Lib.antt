pub mod Refusal
pub mod Result
pub mod Layout
pub mod Lent
