pub mod DownwardLaws
pub mod CollectLaws
pub mod DownLaws
