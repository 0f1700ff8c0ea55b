pub mod Lines
pub mod Noted
pub mod Held
pub mod Followed
