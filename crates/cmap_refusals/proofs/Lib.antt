pub mod RefusingLaws
pub mod LateLaws
