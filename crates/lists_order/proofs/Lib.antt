pub mod OrderLaws
pub mod PointOrderLaws
