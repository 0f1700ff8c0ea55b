pub mod Distincts
pub mod Walks
