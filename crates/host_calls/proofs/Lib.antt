pub mod OneLaws
pub mod RoomLaws
