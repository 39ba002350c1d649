pub mod TablesLaws
pub mod DefaultCases
pub mod NonDefaultCases
pub mod ChecksumLaws
pub mod ReadLaws
