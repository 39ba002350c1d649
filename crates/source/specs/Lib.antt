pub mod Kind
pub mod Fields
pub mod Room
