pub mod SiblingLaws
