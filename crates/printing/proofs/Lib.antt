pub mod RoomLaws
pub mod Shows
