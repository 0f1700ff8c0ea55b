pub mod Histories
pub mod PageKeys
pub mod PageNumbers
pub mod Leading
pub mod Walking
pub mod KeyLists
pub mod Meeting
pub mod LiveKeys
mod PageTotals
mod NextKeyLaws
