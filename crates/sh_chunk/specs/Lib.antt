pub mod Chunks
pub mod Histories
