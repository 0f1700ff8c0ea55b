pub mod PageKeys
pub mod Histories
pub mod Walks
pub mod Gathering
pub mod LiveKeys
pub mod PageLists
pub mod Sums
pub mod NextKeys
