pub mod Lent
pub mod Table
