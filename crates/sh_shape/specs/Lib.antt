pub mod Shape
pub mod Classes
pub mod Places
pub mod Rooms
