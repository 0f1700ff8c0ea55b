pub mod Backs
pub mod Heard
