pub mod CarryingLaws
pub mod RoomsLaws
