pub mod LookupLaws
pub mod StandsLaws
