pub mod LaidLaws
pub mod Relend
pub mod SizesLaws
