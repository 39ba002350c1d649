pub mod BlocksLaws
pub mod CollectLaws
