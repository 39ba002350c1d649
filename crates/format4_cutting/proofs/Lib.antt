pub mod StepsLaws
pub mod CuttingLaws
pub mod WalkLaws
pub mod RunLaws
