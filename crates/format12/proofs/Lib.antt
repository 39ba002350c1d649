pub mod GroupsLaws
pub mod RunLaws
pub mod WalkLaws
pub mod TableLaws
pub mod MaximalLaws
