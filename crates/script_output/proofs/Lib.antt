pub mod KeyLemmas
pub mod NumberLemmas
pub mod EndLemmas
pub mod RangeLemmas
pub mod Telling
pub mod HeaderShapes
pub mod FaultLemmas
