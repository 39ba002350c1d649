pub mod KindLaws
pub mod StandsLaws
