pub mod Boards
pub mod Works
pub mod Gathers
pub mod Merges
