pub mod BelowLaws
pub mod MarksLaws
pub mod LeadingLaws
pub mod FoundLaws
