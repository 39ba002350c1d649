pub mod Choice
pub mod Search
pub mod Lists
pub mod Pieces
pub mod Select
pub mod Linked
pub mod Listed
pub mod Lasts
