pub mod EqualLaws
pub mod MeasuringLaws
pub mod PlacingLaws
