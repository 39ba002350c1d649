pub mod PlacesLaws
pub mod WalkLaws
