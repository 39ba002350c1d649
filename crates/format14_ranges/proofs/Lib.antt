pub mod BitsLaws
pub mod StreamLaws
