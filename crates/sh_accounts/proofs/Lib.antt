pub mod Counts
pub mod OneByOne
pub mod PageCounts
