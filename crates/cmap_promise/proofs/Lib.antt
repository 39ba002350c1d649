pub mod NumberLaws
pub mod PromiseLaws
pub mod ReadBackLaws
