pub mod CutLaws
pub mod Format4Laws
pub mod CountLaws
