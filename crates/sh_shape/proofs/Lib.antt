pub mod ClassLaws
pub mod PlaceLaws
pub mod RoomLaws
