pub mod Batches
pub mod Readers
pub mod Removing
pub mod SideBounds
pub mod Sides
pub mod ToldKeys
pub mod Walks
