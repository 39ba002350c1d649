pub mod CutLookup
pub mod Lookup
pub mod Lone
