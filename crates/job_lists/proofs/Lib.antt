pub mod FillingLaws
pub mod LentLaws
