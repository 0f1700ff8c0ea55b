pub mod Shares
pub mod Stories
pub mod Workers
