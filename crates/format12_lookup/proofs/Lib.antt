pub mod LookupLaws
pub mod BytesLaws
pub mod Lookup12Laws
pub mod Format12KindLaws
pub mod Format12FindsLaws
